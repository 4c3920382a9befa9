-- What a search finds, and which columns it may leave out. Assumes nothing.
use Rattle.std.specs.Prelude.{List, ℕ, ◌+◌, ◌≤◌, ◌<◌, Option, Some, None}
use Rattle.walk.specs.Free.{FirstSpot, NoHeight}
use Rattle.walk.specs.Steps.{TurnSteps}
use Rattle.walk.specs.declared.WithTries.{WithTries}
use Rattle.walk.specs.declared.sought.Search.{Search}
use Rattle.search.specs.declared.Way.{Way}
use Rattle.search.specs.declared.Way.TheVariants.{Walk as ByWalk, Round}

-- no column before `from` has a free height
pub record FullBefore (f l h r : List ℕ) (N W p w t from : ℕ) : Type 0 where
  pub none : (c : ℕ) → c < from → c + w ≤ N → NoHeight f l h r N W p t c

-- the first free position; if none was found, none is in a column before `end`
abbrev pub SearchedTo : (f l h r : List ℕ) (N W p w t end : ℕ) → Option (ℕ × ℕ) → Type 0
SearchedTo f l h r N W p w t end (Some (c, y)) = FirstSpot f l h r N W p w t c y
SearchedTo f l h r N W p w t end None = (c : ℕ) → c < end → c + w ≤ N → NoHeight f l h r N W p t c

-- the walk counts its steps
abbrev pub StepsBy : (f l h r : List ℕ) (N W p w t : ℕ) → Way → ℕ → Type 0
StepsBy f l h r N W p w t ByWalk n = TurnSteps f l h r N W p w t 0 n
StepsBy f l h r N W p w t Round n = Unit {0}

-- the first free position, and the tries; at most 65,536 in each of 4,097 columns
pub record Looks (f l h r : List ℕ) (N W p w t end : ℕ) (way : Way) (a : WithTries (Option (ℕ × ℕ))) : Type 0 where
  pub spot : SearchedTo f l h r N W p w t end a.found
  pub steps : StepsBy f l h r N W p w t way a.tries
  pub few : a.tries ≤ 268500992

abbrev pub FullOf : Search → ℕ → Type 0
FullOf s from = FullBefore s.first.now s.lows.now s.highs.now s.runs.now s.columns s.width s.count s.wide s.tall from

abbrev pub LooksIn : Search → ℕ → Way → WithTries (Option (ℕ × ℕ)) → Type 0
LooksIn s end way a = Looks s.first.now s.lows.now s.highs.now s.runs.now s.columns s.width s.count s.wide s.tall end way a
