-- "With g = 0 every position is the former one.": of one outline, and of whole lists of calls. Assumes nothing.
use Rattle.std.specs.Prelude.{◌≡◌, ◌↔◌, List, ℕ, ◌≤◌, ◌<◌, Ok}
use Rattle.defs.specs.declared.Position.{Position}
use Rattle.defs.specs.Answer.{number_of}
use Rattle.defs.specs.Meaning.Outline.{sides}
use Rattle.defs.specs.Meaning.Turn.{turned}
use Rattle.defs.specs.Meaning.Cell.{Covered, Cells}
use Rattle.defs.specs.Meaning.Placing.{cells_in, Best}
use Rattle.defs.specs.Meaning.Question.{Question10}
use Rattle.defs.specs.Computing.Cells.{piece_runs}
use Rattle.claims.specs.Trace.{PlaceCall, AskCall, Calls, Trace, Lies}
use Rattle.claims.specs.Demand3.{Taken, Place, Ask}
use Rattle.former.specs.Former.{FormerFits, FormerBest, FormerOccupied, former_runs}

-- what was occupied before call m
abbrev pub FormerTaken : Calls → ℕ → ℕ → Cells
FormerTaken x R m = FormerOccupied R (Lies x.call m)

-- A list of calls on a strip with no gap: what is occupied, what place and ask answer, and 13, in the former words.
pub record FormerList (W R N : ℕ) (x : Calls) : Type 0 where
  pub taken : (m i j : ℕ) → m ≤ x.count → Taken x W R N 0 m i j ↔ FormerTaken x R m i j
  pub best_place :
      (m : ℕ) (c : PlaceCall) (p : Position) → Place x m c → c.answer ≡ Ok p →
      FormerBest W R N (FormerTaken x R m) c.outline c.mask p
  pub best_ask :
      (m : ℕ) (c : AskCall) (p : Position) → Ask x m c → c.answer ≡ Ok p →
      FormerBest W R N (FormerTaken x R m) c.outline c.mask p
  pub no_position :
      (m : ℕ) (c : PlaceCall) → Place x m c → number_of c.answer ≡ 13 →
      ¬ ((p : Position) × FormerFits W R N (FormerTaken x R m) c.outline c.mask p)

pub record NoGap : Type 1 where
  -- of one outline: the cells, the runs that cover gives, and, where 7 and 10 pass, the best position
  pub cells : (o : List ℕ) (t R i j : ℕ) → cells_in R 0 o t i j ↔ Covered (turned o t) R i j
  pub runs : (o : List ℕ) (t R : ℕ) → piece_runs o t R 0 ≡ former_runs o t R
  pub positions :
      (W R N : ℕ) (Occupied : Cells) (o : List ℕ) (mask : ℕ) → Question10 o mask → 0 < sides o → 1 ≤ R → (p : Position) →
      Best W R N 0 Occupied o mask p ↔ FormerBest W R N Occupied o mask p
  -- of every list of calls
  pub lists : (W R N : ℕ) (x : Calls) → Trace W R N 0 x → FormerList W R N x
