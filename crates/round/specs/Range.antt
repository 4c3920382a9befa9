-- The least free position of a range of columns.
-- Assumes nothing.
use Rattle.std.specs.Prelude.{List, ℕ, ◌+◌, ◌≤◌, ◌<◌, Option, Some, None}
use Rattle.walk.specs.declared.sought.Search.{Search}
use Rattle.walk.specs.Free.{Least, NoHeight}

-- the least column of a range with a free height, and the least in it
pub record FirstIn (f l h r : List ℕ) (N W p w t from to c y : ℕ) : Type 0 where
  pub at_least : from ≤ c
  pub below : c < to
  pub fits : c + w ≤ N
  pub height : Least f l h r N W p t c y
  pub least : (b : ℕ) → from ≤ b → b < c → NoHeight f l h r N W p t b

abbrev pub SearchedIn : (f l h r : List ℕ) (N W p w t from to : ℕ) → Option (ℕ × ℕ) → Type 0
SearchedIn f l h r N W p w t from to (Some (c, y)) = FirstIn f l h r N W p w t from to c y
SearchedIn f l h r N W p w t from to None = (c : ℕ) → from ≤ c → c < to → c + w ≤ N → NoHeight f l h r N W p t c

abbrev pub SearchedOf : Search → ℕ → ℕ → Option (ℕ × ℕ) → Type 0
SearchedOf s from to a = SearchedIn s.first.now s.lows.now s.highs.now s.runs.now s.columns s.width s.count s.wide s.tall from to a
