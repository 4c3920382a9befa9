-- An outline that passes questions 7, 8 and 10 is at most 16,000 wide in each turn, so with no gap an allowed turn has at most 512,000 runs.
-- Assumes nothing.
use mathlib.Core.Path.{◌≡◌, refl}
use mathlib.Core.Bool.{Bool, true, false, cond}
use mathlib.Core.List.{List}
use Prim.Native.Nat.{ℕ, zero, suc, ◌*◌, ◌+◌, ◌-◌, ◌≤◌, ◌<◌, max}
use native.Mathlib.Omega.{arith}
use Rattle.defs.specs.Meaning.Limits.{most_coordinate, most_turn}
use Rattle.defs.specs.Meaning.Outline.{vx, vy, sides}
use Rattle.defs.specs.Meaning.Turn.{turned, extent_x}
use Rattle.defs.specs.Meaning.Question.{Question7, Question8, Question10, Question12}
use borrow.Author.Tests.{le-leb}
use Rattle.defs.specs.Computing.Cells.{piece_runs, count_runs, allowedb, most_runs}
use Rattle.defs.specs.Computing.Calls.{q12b}
use Rattle.laws.proofs.Questions.{allowed}
use Rattle.laws.proofs.Extremes.{most_limit, greatest_limit}
use Rattle.defs.specs.Computing.Vertices.{most_n}
use Rattle.laws.proofs.Turns.{turn_0_x, turn_1_x, turn_2_x, turn_3_x}
use Rattle.geom.proofs.Checks.{has_side, question_12}
use Rattle.mostruns.proofs.Bound.{runs_bound}

module _ (o : List ℕ) (q7 : Question7 o) (q8 : Question8 o) where
  x_limit : (i : ℕ) → i < sides o → vx o i ≤ most_coordinate
  unfolding Question8
  x_limit i l = q8 (2 * i) (omega arith)

  y_limit : (i : ℕ) → i < sides o → vy o i ≤ most_coordinate
  unfolding Question8
  y_limit i l = q8 (2 * i + 1) (omega arith)

  most_coordinate_lem : (f : ℕ → ℕ) → ((i : ℕ) → i < sides o → f i ≤ most_coordinate) → most_n f (sides o - 1) ≤ most_coordinate
  most_coordinate_lem f h = most_limit f (sides o - 1) most_coordinate (λ i l. h i (omega (arith, has_side o q7)))

  turned_limit : (t : ℕ) → t ≤ most_turn → (i : ℕ) → i < sides o → vx (turned o t) i ≤ most_coordinate
  turned_limit zero h i l = omega (arith, turn_0_x o i l, x_limit i l)
  turned_limit (suc zero) h i l = omega (arith, turn_1_x o i l, most_coordinate_lem (vy o) y_limit)
  turned_limit (suc (suc zero)) h i l = omega (arith, turn_2_x o i l, most_coordinate_lem (vx o) x_limit)
  turned_limit (suc (suc (suc zero))) h i l = omega (arith, turn_3_x o i l, y_limit i l)
  turned_limit (suc (suc (suc (suc t)))) h i l = absurd (omega arith)

  extent_limit : (t : ℕ) → t ≤ most_turn → extent_x o t ≤ most_coordinate
  unfolding extent_x
  extent_limit t h = greatest_limit (vx (turned o t)) (sides o) most_coordinate (turned_limit t h)

  module _ (mask R : ℕ) (q10 : Question10 o mask) (Rpos : 1 ≤ R) where
    most_below : (t : ℕ) → t ≤ 4 → most_runs o mask R 0 t ≤ 512000
    unfolding most_runs Question10
    most_below zero h = omega arith
    most_below (suc t) h = go (allowedb mask t) refl (most_below t (omega arith))
      where
        go : (b : Bool) → allowedb mask t ≡ b → most_runs o mask R 0 t ≤ 512000 →
            max (most_runs o mask R 0 t) (cond b (count_runs (piece_runs o t R 0)) 0) ≤ 512000
        go true e l =
            omega (arith, runs_bound o t R q7 Rpos (q10 t ((allowed mask t (omega arith)).0 e)), extent_limit t (omega arith))
        go false e l = omega arith

pub most_runs_bound : (o : List ℕ) (mask R : ℕ) → Question7 o → Question8 o → Question10 o mask → 1 ≤ R →
    most_runs o mask R 0 4 ≤ 512000
most_runs_bound o mask R q7 q8 q10 Rpos = most_below o q7 q8 mask R q10 Rpos 4 (omega arith)

-- So a work buffer of three words for each of these is never too short.
pub enough_work : (o : List ℕ) (mask R : ℕ) → Question7 o → Question8 o → Question10 o mask → 1 ≤ R → Question12 o mask R 0 1536000
unfolding q12b
enough_work o mask R q7 q8 q10 Rpos =
    (question_12 o mask R q10 (has_side o q7) Rpos 0 1536000).0
    (le-leb (3 * most_runs o mask R 0 4) 1536000 (omega (arith, most_runs_bound o mask R q7 q8 q10 Rpos)))
