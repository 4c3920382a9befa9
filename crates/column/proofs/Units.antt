-- The rows of a column, slab by slab.
-- Assumes nothing.
use mathlib.Core.Path.{◌≡◌, sym, subst}
use mathlib.Core.Logic.{inl, inr, ⊎_elim}
use mathlib.Core.List.{List}
use Prim.Native.Nat.{ℕ, ◌+◌, ◌-◌, ◌≤◌, ◌<◌}
use native.Mathlib.Omega.{arith}
use lib.ListN.{length}
use Rattle.defs.specs.Meaning.Outline.{vy, sides, KeepsOrder}
use Rattle.defs.specs.Meaning.Turn.{turned}
use Rattle.defs.specs.Meaning.Cell.{Covered}
use Rattle.laws.proofs.Extremes.{greatest_limit}
use Rattle.geom.proofs.Strip.{lt_or_le}
use Rattle.geom.proofs.Extent.{covered_within, sides_turned}
use Rattle.outline.specs.Vertex.{Lent}
use Rattle.outline.proofs.Limit.{vertex_limit}
use Rattle.geom.specs.Units.{InUnits}
use Rattle.slabs.specs.Slab.{Neat, InSlab}
use Rattle.slabs.proofs.Cut.{slab_covered, covered_slab}
use Rattle.gaps.specs.Gaps.{SlabRow, Adds, Room}
use Rattle.column.specs.Rows.{Buffers}

module _ {o : List ℕ} (k : Lent o) where
  module _ (t : ℕ) (m : t ≤ 3) (keeps : KeepsOrder (turned o t)) where
    some_sides : 0 < sides (turned o t)
    some_sides = subst (λ (n : ℕ). 0 < n) (sym (sides_turned o t)) (omega (arith, k.some))

    pub row_limit : (a c y : ℕ) → InUnits (turned o t) a c y → y < 16000
    row_limit a c y u =
        let w = covered_within (turned o t) keeps some_sides 1 u.k y u.there in
        omega (arith, w.row, greatest_limit (vy (turned o t)) (sides (turned o t)) 16000 (λ i q. (vertex_limit k t m i (subst (λ (n : ℕ). i < n) (sides_turned o t) q)).1))

    pub units_more : (s : ℕ) {a c : ℕ} {l0 h0 l1 h1 l2 h2 : List ℕ} {n p q : ℕ} → s ≤ a → Neat (turned o t) a c → Adds (InUnits (turned o t) s a) l0 h0 l1 h1 n p → Adds (SlabRow (turned o t) a c) l1 h1 l2 h2 p q → Adds (InUnits (turned o t) s c) l0 h0 l2 h2 n q
    units_more s {a} {c} {l0} {h0} {l1} {h1} {l2} {h2} {n} {p} {q} sa neat u v = go (c - a) (omega (arith, neat.wide))
      where
        go : (L : ℕ) → a + L ≡ c → Adds (InUnits (turned o t) s c) l0 h0 l2 h2 n q
        go L e =
            record {
              runs = v.runs;
              kept = λ y z. v.kept y (u.kept y z);
              added = λ y z.
                  ⊎_elim (λ g. v.kept y (u.added y (record { k = z.k; from = z.from; to = g; there = z.there })))
                  (λ g. v.added y (record { opened = in_slab y z g; row = row_limit s c y z })) (lt_or_le z.k a);
              only = λ y z.
                  ⊎_elim
                  (λ g.
                  ⊎_elim inl (λ w. inr (record { k = w.k; from = w.from; to = omega (arith, w.to, neat.wide); there = w.there })) (u.only y g))
                  (λ g. inr (out y g.opened)) (v.only y z);
            }
          where
            slab : Neat (turned o t) a (a + L)
            slab = subst (λ (n : ℕ). Neat (turned o t) a n) (sym e) neat

            in_slab : (y : ℕ) (z : InUnits (turned o t) s c y) → a ≤ z.k → InSlab (turned o t) a c y
            in_slab y z g =
                let w : z.k ≡ a + (z.k - a) = omega arith in
                subst (λ (n : ℕ). InSlab (turned o t) a n y) e
                (covered_slab (turned o t) keeps some_sides a L slab (z.k - a) y (omega (arith, z.to)) (subst (λ (n : ℕ). Covered (turned o t) 1 n y) w z.there))

            out : (y : ℕ) → InSlab (turned o t) a c y → InUnits (turned o t) s c y
            out y z =
                let w = slab_covered (turned o t) keeps some_sides a L slab y (subst (λ (n : ℕ). InSlab (turned o t) a n y) (sym e) z) in
                record { k = w.k; from = omega (arith, w.from); to = omega (arith, w.to); there = w.there }

    pub units_end : {l h l' h' : List ℕ} {n r : ℕ} (s a c : ℕ) → Adds (InUnits (turned o t) s a) l h l' h' n r → a ≡ c → Adds (InUnits (turned o t) s c) l h l' h' n r
    units_end {l} {h} {l'} {h'} {n} {r} s a c u e = subst (λ (x : ℕ). Adds (InUnits (turned o t) s x) l h l' h' n r) e u

pub units_none : (v : List ℕ) (s : ℕ) (l h : List ℕ) → Adds (InUnits v s s) l h l h 0 0
units_none v s l h =
    record {
      runs = record { full = λ i q. absurd (omega arith); apart = λ i j q g. absurd (omega arith) };
      kept = λ y z. z;
      added = λ y u. absurd (omega (arith, u.from, u.to));
      only = λ y z. inl z;
    }

-- room in the buffers of a column
pub room_units : {P : ℕ → Type 0} {h0 h1 w l h l' h' : List ℕ} {r : ℕ} → Buffers h0 h1 w l h → Adds P l h l' h' 0 r → ((y : ℕ) → P y → y < 16000) → length l' ≡ length l → length h' ≡ length h → Room l' h' r
room_units b a f e g =
    record {
      runs = a.runs;
      rows = λ y z. ⊎_elim (λ k. absurd (omega (arith, k.among))) (λ k. f y k) (a.only y z);
      long = omega (arith, b.lows);
      high_long = omega (arith, b.highs);
    }
