-- A turn has a run, at every resolution, exactly when all of it taken as one column has one: each cell has a covered unit column,
-- each unit column lies in a cell, and none is covered past the extent.
-- Assumes nothing.
use mathlib.Core.Path.{◌≡◌}
use mathlib.Core.Bool.{not}
use mathlib.Core.List.{List}
use Prim.Native.Nat.{ℕ, ◌/◌, ◌≤◌, ◌<◌}
use native.Mathlib.Omega.{arith}
use native.Mathlib.Nat.{div-add-mod, mod-lt}
use lib.Dec.{eqb}
use lib.ListN.{length, get_or}
use Rattle.laws.proofs.Tests.{eqb_decides, not_decides, decides_by}
use Rattle.defs.specs.Meaning.Outline.{sides, KeepsOrder}
use Rattle.defs.specs.Meaning.Turn.{turned, extent_x}
use Rattle.defs.specs.Meaning.Cell.{Covered}
use Rattle.defs.specs.Computing.Cells.{piece_runs, count_runs}
use Rattle.geom.proofs.Cells.{narrow, widen}
use Rattle.geom.proofs.PieceCells.{within}
use Rattle.geom.proofs.Checks.{some_run}
use Rattle.outline.specs.Vertex.{Lent}
use Rattle.column.specs.Rows.{ColumnOf, Working}
use Rattle.inside.specs.Cell.{HasCell}

-- new buffers and no slab kept
pub new_work : {h0 h1 w g0 g1 l h : List ℕ} (v : List ℕ) {a b m c : ℕ} → b ≡ 0 → c ≡ 0 → length h0 ≡ 64 → length h1 ≡ 64 →
    length w ≡ 64 → length g0 ≡ 64 → length g1 ≡ 64 → length l ≡ 8001 → length h ≡ 8001 → Working v a b m c h0 h1 w g0 g1 l h
new_work v eb ec e0 e1 ew f0 f1 el eh =
    record {
      buffers = record { left = e0; right = e1; wide = ew; lows = omega arith; highs = omega arith };
      part_left = f0;
      part_right = f1;
      kept = λ z. absurd (omega arith);
      next = record { none = λ i l z. omega arith };
    }

pub some_side : {o : List ℕ} → Lent o → 0 < sides o
some_side lent = omega (arith, lent.some)

-- a unit column lies in the cell's column by division
pub unit_cell : {v : List ℕ} (R k j : ℕ) → 1 ≤ R → Covered v 1 k j → Covered v R (k / R) j
unit_cell R k j Rpos c =
    widen (record { k = k; from = omega (arith, div-add-mod k R); to = omega (arith, div-add-mod k R, mod-lt k Rpos); there = c })

module _ (o : List ℕ) (t : ℕ) {w n a b m c : ℕ} {h0 h1 s l h : List ℕ} (lent : Lent o) (keeps : KeepsOrder (turned o t)) (e : w ≡ extent_x o t)
    (k : ColumnOf (turned o t) 0 w h0 h1 s l h n a b m c) where
  -- the first row of the first run
  run_cell : (R : ℕ) → 1 ≤ R → 0 < n → 0 < count_runs (piece_runs o t R 0)
  run_cell R Rpos p =
      let u = (k.rows (get_or l 0 0)).0 (record { which = 0; among = p; low = omega arith; high = k.runs.full 0 p }) in
      (some_run o t R keeps (some_side lent) Rpos 0).1 (u.k / R, get_or l 0 0, unit_cell R u.k (get_or l 0 0) Rpos u.there)

  cell_run : (R : ℕ) → 1 ≤ R → 0 < count_runs (piece_runs o t R 0) → 0 < n
  cell_run R Rpos p =
      let z = (some_run o t R keeps (some_side lent) Rpos 0).0 p in
      let u = narrow z.2 in
      let x = within o t 1 keeps (some_side lent) (omega arith) u.k z.1 u.there in
      let y = (k.rows z.1).1 (record { k = u.k; from = omega arith; to = omega (arith, x.column); there = u.there }) in
      omega (arith, y.among)

  pub one_column : HasCell o t (not (eqb n 0))
  one_column =
      record {
        every = λ R Rpos.
            decides_by (λ z. run_cell R Rpos (omega arith)) (λ p. let q = cell_run R Rpos p in λ z. omega arith)
            (not_decides (eqb_decides n 0));
      }
