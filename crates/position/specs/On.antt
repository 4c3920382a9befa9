-- A piece placed on a board. Assumes nothing.
use Rattle.std.specs.Prelude.{List, ℕ, ◌≤◌, length, Result}
use Rattle.defs.specs.declared.Refusal.{Refusal}
use Rattle.defs.specs.declared.Position.{Position}
use Rattle.outline.specs.declared.Bounds.{Bounds}
use Rattle.search.specs.declared.Way.{Way}
use Rattle.best.specs.declared.laid.Board.{Board}
use Rattle.position.specs.Table.{Enterable, EntersAt, CountedOn}

-- room for the next table of a strip with Q records
pub record NextRoom (Q : ℕ) (f l h : List ℕ) : Type 0 where
  pub records : Q ≤ 16000
  pub firsts : 4097 ≤ length f
  pub lows : 24001 ≤ length l
  pub highs : 24001 ≤ length h

abbrev pub EnterableIn : Board → List ℕ → Bounds → ℕ → Position → Type 0
EnterableIn k o b words p =
    Enterable k.first.now k.lows.now k.highs.now o k.figures.width k.figures.resolution k.figures.columns k.gap b words p

abbrev pub EntersIn : Board → (f' l' h' o : List ℕ) → Position → Result Position Refusal → Type 0
EntersIn k f' l' h' o p a =
    EntersAt k.first.now k.lows.now k.highs.now f' l' h' o k.figures.width k.figures.resolution k.figures.columns k.gap k.records p a

abbrev pub CountedIn : Board → (f' l' h' o : List ℕ) → (mask words : ℕ) → Way → Result Position Refusal → ℕ → Type 0
CountedIn k f' l' h' o mask words way a n =
    CountedOn k.first.now k.lows.now k.highs.now f' l' h' o k.figures.width k.figures.resolution k.figures.columns k.gap k.records mask words way a n
