-- What the lay call answers and leaves but for the work buffer. Assumes nothing.
use Rattle.std.specs.Prelude.{◌≡◌, List, ℕ, length, Result}
use Rattle.defs.specs.declared.Refusal.{Refusal}
use Rattle.defs.specs.declared.Totals.{Totals}
use Rattle.defs.specs.Computing.Lay.{lay_answer, lay_output, LayLeaves}

-- the step of lay but for the work buffer
pub record LayAnswered (b : List ℕ) (g : ℕ) (s out : List ℕ) (words : ℕ) (a : Result Totals Refusal) (s' out' : List ℕ) : Type 0 where
  pub answer : a ≡ lay_answer b g (length s) (length out) words
  pub output : out' ≡ lay_output b g out (length s) words a
  pub strip : LayLeaves b g s words a s'
