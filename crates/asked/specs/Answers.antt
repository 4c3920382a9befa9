-- What the answers to questions 7 to 11 mean. A cell is covered at one resolution exactly when one is at each other, so an answer
-- holds for every resolution.
-- Assumes nothing.
use Rattle.std.specs.Prelude.{◌≡◌, Bool, List, ℕ, ◌≤◌, ◌<◌, Result, Ok, Err}
use Rattle.defs.specs.Meaning.Turn.{Allows}
use Rattle.defs.specs.Computing.Test.{ask}
use Rattle.defs.specs.Computing.Cells.{piece_runs, count_runs, ordersb}
use Rattle.defs.specs.Computing.Calls.{q7b, q8b, q11b, outline_no}
use Rattle.laws.proofs.Tests.{Decides}

-- turn t is allowed and has a run
pub record AllowedCell (o : List ℕ) (mask t : ℕ) (r : Bool) : Type 0 where
  pub every : (R : ℕ) → 1 ≤ R → Decides r (Allows mask t × (0 < count_runs (piece_runs o t R 0)))

-- the answer to question 11
pub record SomeCell (o : List ℕ) (mask : ℕ) (r : Bool) : Type 0 where
  pub every : (R : ℕ) → 1 ≤ R → r ≡ q11b o mask R

-- the first of 7 to 10 that gets "no", else 0
unfoldable pub order_no : List ℕ → Bool → ℕ → ℕ
order_no o ninth mask =
    ask (q7b o) 7 λ _.
    ask (q8b o) 8 λ _.
    ask ninth 9 λ _.
    ask (ordersb o mask) 10 λ _.
    0

-- the first of 7 to 11 that gets "no", else 0
pub record FirstNo (o : List ℕ) (ninth : Bool) (mask r : ℕ) : Type 0 where
  pub every : (R : ℕ) → 1 ≤ R → r ≡ outline_no o ninth mask R

-- an answer that tells it: its number, or that there is none
abbrev pub FirstOf : List ℕ → Bool → ℕ → Result Unit ℕ → Type 0
FirstOf o ninth mask (Ok tt) = FirstNo o ninth mask 0
FirstOf o ninth mask (Err n) = FirstNo o ninth mask n × (0 < n)
