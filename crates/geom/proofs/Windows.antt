-- A cell with a gap is covered exactly when a row at most g below it is covered in a unit column from iR − g to (i+1)R. With no gap the
-- cells are those of document 01.
-- Assumes nothing.
use mathlib.Core.List.{List}
use mathlib.Core.Logic.{◌↔◌}
use mathlib.Core.Path.{◌≡◌, subst}
use Prim.Native.Nat.{ℕ, ◌+◌, ◌*◌, ◌-◌, ◌/◌, ◌≤◌, max}
use native.Mathlib.Omega.{arith}
use native.Mathlib.Nat.{div-add-mod, mod-lt}
use Rattle.defs.specs.Meaning.Cell.{Covered}
use Rattle.geom.proofs.Cells.{narrow, widen}
use Rattle.defs.specs.Meaning.Cell.{CoveredGap}
use Rattle.geom.specs.Units.{InUnits, Raised}

-- a cell of document 01 is covered exactly when one of its unit columns is
pub unit_columns : {o : List ℕ} {R i j : ℕ} → Covered o R i j ↔ InUnits o (i * R) ((i + 1) * R) j
unit_columns = (narrow, widen)

module _ (o : List ℕ) (R g i j : ℕ) where
  pub gap_window : CoveredGap o R g i j → Raised g (InUnits o (i * R - g) ((i + 1) * R)) j
  gap_window c =
      let u = c.there in
      record {
        row = u.row;
        holds =
            record {
              k = u.column;
              from = omega (arith, c.from, u.columns);
              to = omega (arith, c.to, u.left);
              there = u.holds;
            };
        below = u.below;
        rows = u.rows;
      }

  -- the unit cell in the column of the point, or in the first of the cell's columns
  pub window_gap : 1 ≤ R → Raised g (InUnits o (i * R - g) ((i + 1) * R)) j → CoveredGap o R g i j
  window_gap Rpos w =
      let u = w.holds in
      record {
        k = max u.k (i * R);
        from = omega arith;
        to = omega (arith, u.to);
        there =
            record {
              column = u.k;
              row = w.row;
              holds = u.there;
              left = omega arith;
              columns = omega (arith, u.from);
              below = w.below;
              rows = w.rows;
            };
      }

  pub gap_rows : 1 ≤ R → CoveredGap o R g i j ↔ Raised g (InUnits o (i * R - g) ((i + 1) * R)) j
  gap_rows Rpos = (gap_window, window_gap Rpos)

-- with no gap
pub no_gap : (o : List ℕ) (R i j : ℕ) → CoveredGap o R 0 i j ↔ Covered o R i j
no_gap o R i j = (
  λ c.
      let u = c.there in
      let r : u.row ≡ j = omega (arith, u.below, u.rows) in
      let e : u.column ≡ c.k = omega (arith, u.left, u.columns) in
      widen
      (record {
        k = u.column;
        from = omega (arith, c.from);
        to = omega (arith, c.to);
        there = subst (λ (n : ℕ). Covered o 1 u.column n) r u.holds;
      }),
  λ c.
      let u = narrow c in
      record {
        k = u.k;
        from = u.from;
        to = u.to;
        there =
            record {
              column = u.k;
              row = j;
              holds = u.there;
              left = omega arith;
              columns = omega arith;
              below = omega arith;
              rows = omega arith;
            };
      },
)

-- a cell of document 01 is covered with any gap, and one that is covered with a gap comes from one of document 01
pub covered_gap : (o : List ℕ) (R g i j : ℕ) → Covered o R i j → CoveredGap o R g i j
covered_gap o R g i j c =
    let u = (no_gap o R i j).1 c in
    let v = u.there in
    record {
      k = u.k;
      from = u.from;
      to = u.to;
      there =
          record {
            column = v.column;
            row = v.row;
            holds = v.holds;
            left = v.left;
            columns = omega (arith, v.columns);
            below = v.below;
            rows = omega (arith, v.rows);
          };
    }

pub gap_point : (o : List ℕ) (R g i j : ℕ) → 1 ≤ R → (c : CoveredGap o R g i j) → Covered o R (c.there.column / R) c.there.row
gap_point o R g i j Rpos c =
    let k = c.there.column in
    widen
    (record {
      k = k;
      from = omega (arith, div-add-mod k R);
      to = omega (arith, div-add-mod k R, mod-lt k Rpos);
      there = c.there.holds;
    })
