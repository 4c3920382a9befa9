-- With no gap, an outline has at most 32 runs for each unit of its width, at any resolution: a run has the number of its lowest cell.
-- Assumes nothing.
use mathlib.Core.Path.{◌≡◌, sym, subst}
use mathlib.Core.Bool.{true}
use mathlib.Core.List.{List}
use mathlib.Core.Logic.Iff
use mathlib.Core.Logic.{⊎_elim}
use Prim.Native.Nat.{ℕ, ◌+◌, ◌*◌, ◌-◌, ◌≤◌, ◌<◌}
use native.Mathlib.Omega.{arith}
use Rattle.defs.specs.Meaning.Outline.{vx, sides, KeepsOrder}
use Rattle.defs.specs.Meaning.Turn.{turned, greatest, extent_x}
use Rattle.defs.specs.Meaning.Cell.{CoveredGap, Run, AtMostRuns}
use Rattle.defs.specs.Meaning.Placing.{cells_in}
use Rattle.defs.specs.Meaning.Question.{Question7}
use Rattle.defs.specs.Computing.Cells.{unitsb, piece_runs, count_runs}
use Rattle.laws.proofs.Tests.{Decides}
use Rattle.geom.proofs.Strip.{lt_or_le}
use Rattle.geom.proofs.Computed.{units_decide}
use Rattle.geom.proofs.Windows.{unit_columns, no_gap}
use Rattle.geom.proofs.Extent.{sides_turned}
use Rattle.geom.proofs.Checks.{runs_of_turn, has_side}
use Rattle.mostruns.proofs.Numbered.{number, number_below, number_joins}

module _ (v : List ℕ) (R : ℕ) (keeps : KeepsOrder v) (some : 0 < sides v) (few : sides v ≤ 64) where
  cell_decides : (i j : ℕ) → Decides (unitsb v (i * R) R j) (CoveredGap v R 0 i j)
  cell_decides i j =
      let e : (i + 1) * R - i * R ≡ R = omega arith in
      Iff.trans (rw e at (units_decide v keeps some (i * R) ((i + 1) * R) j)) (Iff.trans (Iff.symm unit_columns) (Iff.symm (no_gap v R i j)))

  lowest_covered : {i low high : ℕ} → Run (CoveredGap v R 0) i low high → unitsb v (i * R) R low ≡ true
  lowest_covered r = (cell_decides _ _).1 (r.unbroken _ (omega arith) r.some)

  -- else the row below the second would be covered
  no_later : {i low high i' low' high' : ℕ} → Run (CoveredGap v R 0) i low high → Run (CoveredGap v R 0) i' low' high' →
      number v R i low ≡ number v R i' low' → low' ≤ low
  no_later {low = low} {i' = i'} {low' = low'} r s e =
      ⊎_elim
      (λ l.
      absurd
      (s.no_lower (low' - 1) (omega arith)
      ((cell_decides i' (low' - 1)).0
      ((number_joins v R few _ _ _ _ (lowest_covered r) (lowest_covered s) e).1 (low' - 1) (omega arith) (omega arith)))))
      (λ l. l) (lt_or_le low low')

  at_most_runs : AtMostRuns (CoveredGap v R 0) (32 * greatest (vx v) (sides v))
  at_most_runs =
      record {
        number = number v R;
        below = λ r. number_below v R few _ _ (lowest_covered r);
        differ = λ r s e.
            ((number_joins v R few _ _ _ _ (lowest_covered r) (lowest_covered s) e).0, omega (arith, no_later r s e, no_later s r (sym e)));
      }

pub runs_bound : (o : List ℕ) (t R : ℕ) → Question7 o → 1 ≤ R → KeepsOrder (turned o t) →
    count_runs (piece_runs o t R 0) ≤ 32 * extent_x o t
unfolding extent_x
runs_bound o t R q7 Rpos keeps =
    let same = sides_turned o t in
    (runs_of_turn o t R 0 keeps (has_side o q7) Rpos _).1
    (subst (λ (n : ℕ). AtMostRuns (cells_in R 0 o t) (32 * greatest (vx (turned o t)) n)) same
    (at_most_runs (turned o t) R keeps (omega arith) (omega arith)))
