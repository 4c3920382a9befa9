-- The runs of an outline have its covered cells: a row lies in a run exactly when its cell is covered. Cells that hold a point inside lie
-- within the extent, those that are covered at most g unit columns and g rows past it, and each run begins below the extent's top.
-- Assumes nothing.
use mathlib.Core.Bool.{true}
use mathlib.Core.List.{List, []}
use mathlib.Core.Logic.{◌⊎◌, inl, inr, ⊎_elim, ◌↔◌}
use mathlib.Core.Path.{◌≡◌, ap, sym, subst, ◌∙◌}
use Prim.Native.Nat.{ℕ, ◌+◌, ◌*◌, ◌-◌, ◌≤◌, ◌<◌}
use native.Mathlib.Omega.{arith}
use native.Mathlib.Nat.{div-zero}
use lib.ListN.{length, get_or}
use Rattle.defs.specs.Meaning.Outline.{vx, vy, sides, KeepsOrder}
use Rattle.defs.specs.Meaning.Turn.{greatest, turned, extent_x, extent_y}
use Rattle.defs.specs.Meaning.Cell.{Covered, CoveredGap, Run}
use Rattle.defs.specs.Meaning.Placing.{columns_for}
use Rattle.defs.specs.Computing.Test.{list_from}
use Rattle.defs.specs.Computing.Cells.{Rows, coveredb, stretches, in_rows, piece_runs, count_runs}
use Rattle.laws.proofs.Lists.{list_from_at, list_from_past, list_from_each, length-list_from}
use Rattle.geom.proofs.Strip.{lt_or_le}
use Rattle.geom.proofs.Extent.{Within, covered_within, rounded_up, sides_turned}
use Rattle.geom.proofs.Stretches.{Valid, stretches_are, no_rows}
use Rattle.geom.proofs.RunLists.{Apart, ApartFrom, apart_valid, stretches_apart}
use Rattle.geom.proofs.Computed.{gap_covered}

-- a cell that holds a point inside lies within the extent
pub within : (o : List ℕ) (t R : ℕ) → KeepsOrder (turned o t) → 0 < sides o → 1 ≤ R → (i j : ℕ) → Covered (turned o t) R i j →
    Within (extent_x o t) (extent_y o t) R i j
unfolding extent_x extent_y
within o t R keeps some Rpos i j c =
    subst (λ (n : ℕ). Within (greatest (vx (turned o t)) n) (greatest (vy (turned o t)) n) R i j) (sides_turned o t)
    (covered_within (turned o t) keeps (subst (λ (n : ℕ). 0 < n) (sym (sides_turned o t)) some) R i j c)

pub record WithinGap (w h R g i j : ℕ) : Type 0 where
  pub column : i * R < w + g
  pub row : j < h + g

-- what holds of the runs whatever the outline is
module _ (o : List ℕ) (t R g : ℕ) where
  pub runs_apart : (i : ℕ) → Apart (get_or (piece_runs o t R g) i [])
  unfolding piece_runs ApartFrom
  runs_apart i = list_from_each Apart _ [] (λ i. stretches_apart _ _) tt 0 _ i

  pub runs_valid : (i : ℕ) → Valid (get_or (piece_runs o t R g) i [])
  runs_valid i = apart_valid 0 _ (runs_apart i)

  pub rows_below : (i j : ℕ) → in_rows (get_or (piece_runs o t R g) i []) j ≡ true → j < extent_y o t + g
  unfolding piece_runs
  rows_below i =
      list_from_each (λ rs. (j : ℕ) → in_rows rs j ≡ true → j < extent_y o t + g) _ []
      (λ k j e. ((stretches_are (coveredb (turned o t) R g k) (extent_y o t + g) j).0 e).0) (λ j e. absurd (no_rows j e)) 0 _ i

  pub piece_columns : length (piece_runs o t R g) ≡ columns_for (extent_x o t + g) R
  unfolding piece_runs
  piece_columns = length-list_from _ 0 (columns_for (extent_x o t + g) R)

-- with R = 0 no turn has a column
pub no_columns : (o : List ℕ) (t g : ℕ) → count_runs (piece_runs o t 0 g) ≡ 0
unfolding piece_runs count_runs list_from
no_columns o t g = rw div-zero

module _ (o : List ℕ) (t R g : ℕ) (keeps : KeepsOrder (turned o t)) (some : 0 < sides o) (Rpos : 1 ≤ R) where
  abbrev v : List ℕ
  v = turned o t

  some_turned : 0 < sides v
  some_turned = subst (λ (n : ℕ). 0 < n) (sym (sides_turned o t)) some

  pub gap_within : (i j : ℕ) → CoveredGap v R g i j → WithinGap (extent_x o t) (extent_y o t) R g i j
  gap_within i j c =
      let u = c.there in
      let w = within o t 1 keeps some (omega arith) u.column u.row u.holds in
      record { column = omega (arith, c.from, u.columns, w.column); row = omega (arith, u.rows, w.row) }

  runs_at : (i : ℕ) → i < columns_for (extent_x o t + g) R →
      get_or (piece_runs o t R g) i [] ≡ stretches (coveredb v R g i) (extent_y o t + g) []
  unfolding piece_runs
  runs_at i l =
      list_from_at (λ i. stretches (coveredb v R g i) (extent_y o t + g) []) 0 (columns_for (extent_x o t + g) R) i [] l ∙
      ap (λ (a : ℕ). stretches (coveredb v R g a) (extent_y o t + g) []) (omega arith)

  runs_past : (i : ℕ) → columns_for (extent_x o t + g) R ≤ i → get_or (piece_runs o t R g) i [] ≡ []
  unfolding piece_runs
  runs_past i l = list_from_past _ 0 (columns_for (extent_x o t + g) R) i [] l

  pub piece_cells : (i j : ℕ) → (in_rows (get_or (piece_runs o t R g) i []) j ≡ true) ↔ CoveredGap (turned o t) R g i j
  piece_cells i j = (
    λ e. go e (lt_or_le i (columns_for (extent_x o t + g) R)),
    λ c.
        let w = gap_within i j c in
        subst (λ (rs : List Rows). in_rows rs j ≡ true) (sym (runs_at i (rounded_up (extent_x o t + g) R i Rpos w.column)))
        ((stretches_are (coveredb v R g i) (extent_y o t + g) j).1 (w.row, (gap_covered v keeps some_turned R g i j Rpos).1 c)),
  )
    where
      go : in_rows (get_or (piece_runs o t R g) i []) j ≡ true →
          (i < columns_for (extent_x o t + g) R) ⊎ (columns_for (extent_x o t + g) R ≤ i) → CoveredGap (turned o t) R g i j
      go e (inl l) =
          (gap_covered v keeps some_turned R g i j Rpos).0
          ((stretches_are (coveredb v R g i) (extent_y o t + g) j).0 (subst (λ (rs : List Rows). in_rows rs j ≡ true) (runs_at i l) e)).1
      go e (inr l) = absurd (no_rows j (subst (λ (rs : List Rows). in_rows rs j ≡ true) (runs_past i l) e))

  -- the lowest row of a run has a point inside, so it lies below the top of the outline: the row of a point less far below would be one
  -- of the run, and there is none below it
  pub run_foot : {i low high : ℕ} → Run (CoveredGap v R g) i low high → low < extent_y o t
  run_foot {i} {low} r =
      let c = r.unbroken low (omega arith) r.some in
      let u = c.there in
      let w = within o t 1 keeps some (omega arith) u.column u.row u.holds in
      ⊎_elim
      (λ l.
      absurd
      (r.no_lower (low - 1) (omega arith)
      (record {
        k = c.k;
        from = c.from;
        to = c.to;
        there =
            record {
              column = u.column;
              row = u.row;
              holds = u.holds;
              left = u.left;
              columns = u.columns;
              below = omega arith;
              rows = omega (arith, u.rows);
            };
      })))
      (λ l. omega (arith, w.row)) (lt_or_le u.row low)
