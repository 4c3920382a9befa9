-- The cells of the moved piece with a gap are those of the turned outline with a gap, c columns to the right and y rows up.
-- Assumes nothing.
use mathlib.Core.List.{List}
use mathlib.Core.Path.{◌≡◌, ap, sym, subst}
use Prim.Native.Nat.{ℕ, ◌+◌, ◌*◌, ◌-◌, ◌≤◌, ◌<◌}
use native.Mathlib.Omega.{arith}
use native.Mathlib.Nat.{lt_of_mul-lt-mul_right}
use Rattle.defs.specs.Meaning.Cell.{Covered, CoveredGap}
use Rattle.geom.proofs.Shift.{shifted}
use Rattle.geom.proofs.MovedCells.{cells_shift, cells_back}

-- a shift by whole columns and rows
module _ (R g c y : ℕ) (v : List ℕ) where
  by_units : shifted (c * R * 1) y v ≡ shifted (c * R) y v
  by_units = let e : c * R * 1 ≡ c * R = omega arith in ap (λ (x : ℕ). shifted x y v) e

  pub gap_shift : (i j : ℕ) → CoveredGap v R g i j → CoveredGap (shifted (c * R) y v) R g (c + i) (y + j)
  gap_shift i j a =
      let u = a.there in
      record {
        k = c * R + a.k;
        from = omega (arith, a.from);
        to = omega (arith, a.to);
        there =
            record {
              column = c * R + u.column;
              row = y + u.row;
              holds =
                  subst (λ (s : List ℕ). Covered s 1 (c * R + u.column) (y + u.row)) by_units
                  (cells_shift 1 (c * R) y v u.column u.row u.holds);
              left = omega (arith, u.left);
              columns = omega (arith, u.columns);
              below = omega (arith, u.below);
              rows = omega (arith, u.rows);
            };
      }

  pub record Came (i j : ℕ) : Type 0 where
    pub column : c ≤ i
    pub row : y ≤ j
    pub covered : CoveredGap v R g (i - c) (j - y)

  pub gap_back : (i j : ℕ) → CoveredGap (shifted (c * R) y v) R g i j → Came i j
  gap_back i j a =
      let u = a.there in
      let b =
      cells_back 1 (c * R) y v u.column u.row
      (subst (λ (s : List ℕ). Covered s 1 u.column u.row) (sym by_units) u.holds) in
      let ci : c < i + 1 = lt_of_mul-lt-mul_right R (omega (arith, a.to, u.left, b.column)) in
      go (i - c) (a.k - c * R) (omega arith) (omega (arith, u.left, b.column)) b.column b.row b.covered
    where
      go : (i' k' : ℕ) → c + i' ≡ i → c * R + k' ≡ a.k → c * R ≤ a.there.column → y ≤ a.there.row →
          Covered v 1 (a.there.column - c * R) (a.there.row - y) → Came i j
      go i' k' ei ek lc lr cov =
          let u = a.there in
          let di : i - c ≡ i' = omega arith in
          record {
            column = omega arith;
            row = omega (arith, u.below);
            covered =
                subst (λ (n : ℕ). CoveredGap v R g n (j - y)) (sym di)
                (record {
                  k = k';
                  from = omega (arith, a.from, ap (λ (n : ℕ). n * R) ei);
                  to = omega (arith, a.to, ap (λ (n : ℕ). n * R) ei);
                  there =
                      record {
                        column = u.column - c * R;
                        row = u.row - y;
                        holds = cov;
                        left = omega (arith, u.left);
                        columns = omega (arith, u.columns);
                        below = omega (arith, u.below);
                        rows = omega (arith, u.rows);
                      };
                });
          }
