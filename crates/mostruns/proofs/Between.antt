-- What the test `opens` says of an edge and a row; and where two edges of one rank open two rows of a unit column, every row between
-- the two is open.
-- Assumes nothing.
use mathlib.Core.Path.{◌≡◌}
use mathlib.Core.Bool.{true, ◌&&◌}
use mathlib.Core.List.{List}
use mathlib.Core.Logic.Iff
use Prim.Native.Nat.{ℕ, ◌+◌, ◌*◌, ◌%◌, ◌≤◌, ◌<◌, min, max}
use native.Mathlib.Omega.{arith}
use native.Mathlib.Nat.{mul-le-mul_right}
use Rattle.defs.specs.Meaning.Outline.{edge_at, sides, spans, width, height}
use Rattle.defs.specs.Computing.Cells.{higher, not_higher, reaches, rises, open_above, opens}
use Rattle.laws.proofs.Tests.{Decides, and_left, and_right, and_both, and_decides, eqb_decides, ltb_decides, all_to_decides, implies_decides, decides_by}
use Rattle.mostruns.proofs.Ranks.{higher_still, rank_not_higher}

-- Row j of unit column k is open above edge i.
pub record Open (v : List ℕ) (k j i : ℕ) : Type 0 where
  pub edge : spans (edge_at v i) k ≡ true
  pub odd : not_higher v k i % 2 ≡ 1
  pub low : min (height (edge_at v i) k 1) (height (edge_at v i) (k + 1) 1) < (j + 1) * width (edge_at v i)
  pub high : (m : ℕ) → m < sides v → (spans (edge_at v m) k && higher k (edge_at v i) (edge_at v m)) ≡ true →
      j * width (edge_at v m) < max (height (edge_at v m) k 1) (height (edge_at v m) (k + 1) 1)

pub opens_decides : (v : List ℕ) (k j i : ℕ) → Decides (opens v k j i) (Open v k j i)
unfolding opens reaches open_above rises
opens_decides v k j i =
    decides_by (λ h. record { edge = h.0; odd = h.1.0; low = h.1.1.0; high = h.1.1.1 })
    (λ t. (t.edge, (t.odd, (t.low, t.high))))
    (and_decides Iff.rfl
    (and_decides (eqb_decides _ _)
    (and_decides (ltb_decides _ _) (all_to_decides _ (sides v) _ (λ m _. implies_decides Iff.rfl (ltb_decides _ _))))))

-- edge a reaches down far enough, and each edge above it is above b and rises far enough
pub open_between : (v : List ℕ) (k a b low j high : ℕ) → b < sides v → not_higher v k b ≤ not_higher v k a → Open v k low a →
    Open v k high b → low ≤ j → j ≤ high → Open v k j a
open_between v k a b low j high l r x y below above =
    record {
      edge = x.edge;
      odd = x.odd;
      low = omega (arith, x.low, mul-le-mul_right (width (edge_at v a)) below);
      high = λ m h s.
          omega (
            arith,
            mul-le-mul_right (width (edge_at v m)) above,
            y.high m h
                (and_both (and_left (spans (edge_at v m) k) _ s)
                (higher_still k (edge_at v a) (edge_at v b) (edge_at v m) y.edge (rank_not_higher k v a b l x.edge y.edge r)
                (and_right (spans (edge_at v m) k) _ s))),
          );
    }
