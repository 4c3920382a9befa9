-- The cells of the moved piece are the rows of its runs, moved: cell (i, j) is row j - y of its column i - c. Where the position is on
-- the strip, the cells that hold a point inside are cells of the strip, for they lie within the piece's extent.
-- Assumes nothing.
use mathlib.Core.Path.{◌≡◌, ap, sym, subst}
use mathlib.Core.Bool.{true}
use mathlib.Core.List.{List, []}
use mathlib.Core.Logic.{◌↔◌}
use Prim.Native.Nat.{ℕ, ◌+◌, ◌*◌, ◌-◌, ◌≤◌, ◌<◌}
use native.Mathlib.Omega.{arith}
use lib.ListN.{get_or}
use Rattle.defs.specs.declared.Position.{Position}
use Rattle.defs.specs.Meaning.Outline.{vx, vy, sides, KeepsOrder}
use Rattle.defs.specs.Meaning.Turn.{outline_from, turned, extent_x}
use Rattle.defs.specs.Meaning.Cell.{Covered, CoveredGap}
use Rattle.defs.specs.Meaning.Placing.{moved, OnStrip}
use Rattle.defs.specs.Computing.Cells.{in_rows, piece_runs}
use Rattle.geom.proofs.Extent.{rounded_up, sides_turned}
use Rattle.geom.proofs.PieceCells.{piece_cells, within}
use Rattle.geom.proofs.Shift.{shifted}
use Rattle.geom.proofs.MovedCells.{cells_back}
use Rattle.geom.proofs.MovedGap.{gap_shift, gap_back, Came}

moved_is : (R : ℕ) (o : List ℕ) (p : Position) → moved R o p ≡ shifted (p.column * R) p.height (turned o p.turn)
unfolding moved
moved_is R o p =
    ap (λ (n : ℕ). outline_from (λ i. vx (turned o p.turn) i + p.column * R) (λ i. vy (turned o p.turn) i + p.height) 0 n)
    (sym (sides_turned o p.turn))

module _ (R g : ℕ) (o : List ℕ) (p : Position)
    (keeps : KeepsOrder (turned o p.turn)) (some_side : 0 < sides o) (Rpos : 1 ≤ R) where
  came : (i j : ℕ) → CoveredGap (moved R o p) R g i j → Came R g p.column p.height (turned o p.turn) i j
  came i j c = gap_back R g p.column p.height (turned o p.turn) i j (rw (moved_is R o p) at c)

  back : (i j : ℕ) → p.column ≤ i → p.height ≤ j → CoveredGap (turned o p.turn) R g (i - p.column) (j - p.height) →
      CoveredGap (moved R o p) R g i j
  back i j ci yj c =
      let ei : p.column + (i - p.column) ≡ i = omega arith in
      let ej : p.height + (j - p.height) ≡ j = omega arith in
      rw (moved_is R o p)
      (subst (λ (n : ℕ). CoveredGap (shifted (p.column * R) p.height (turned o p.turn)) R g n j) ei
      (subst (λ (n : ℕ). CoveredGap (shifted (p.column * R) p.height (turned o p.turn)) R g (p.column + (i - p.column)) n) ej
      (gap_shift R g p.column p.height (turned o p.turn) (i - p.column) (j - p.height) c)))

  -- row j - y of the piece's column i - c; nothing is cut off
  pub moved_cells : (i j : ℕ) →
      CoveredGap (moved R o p) R g i j ↔
      ((p.column ≤ i) × (p.height ≤ j) ×
      (in_rows (get_or (piece_runs o p.turn R g) (i - p.column) []) (j - p.height) ≡ true))
  moved_cells i j =
      let rows = piece_cells o p.turn R g keeps some_side Rpos (i - p.column) (j - p.height) in (
        λ c. let k = came i j c in (k.column, k.row, rows.1 k.covered),
        λ h. back i j h.0 h.1 (rows.0 h.2),
      )

-- a cell of the moved piece that holds a point inside is on the strip
pub points_on_strip : (R : ℕ) (o : List ℕ) (p : Position) → KeepsOrder (turned o p.turn) → 0 < sides o → 1 ≤ R → (W N : ℕ) →
    OnStrip W R N o p → (i j : ℕ) → Covered (moved R o p) R i j → (i < N) × (j < W)
points_on_strip R o p keeps some_side Rpos W N on i j c =
    let k = cells_back R p.column p.height (turned o p.turn) i j (rw (moved_is R o p) at c) in
    let w = within o p.turn R keeps some_side Rpos (i - p.column) (j - p.height) k.covered in (
      omega (arith, on.columns, k.column, rounded_up (extent_x o p.turn) R (i - p.column) Rpos w.column),
      omega (arith, on.rows, k.row, w.row),
    )
