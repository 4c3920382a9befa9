-- The slab theorem on an outline: the rows open in a slab are those covered in its unit columns.
-- Assumes nothing.
use mathlib.Core.Path.{◌≡◌, refl, ap, ap₂, sym, subst, ◌∙◌}
use mathlib.Core.Bool.{Bool, true, false, not, ◌&&◌}
use mathlib.Core.List.{List}
use Prim.Native.Nat.{ℕ, ◌+◌, ◌*◌, ◌-◌, ◌%◌, ◌≤◌, ◌<◌}
use native.Mathlib.Omega.{arith}
use lib.Dec.{ltb, leb}
use borrow.Author.Tests.{lt-ltb, ltb-true, leb-true}
use Rattle.laws.proofs.Tests.{and_left, and_right}
use Rattle.defs.specs.Meaning.Outline.{edge_at, sides, spans, width, height, KeepsOrder}
use Rattle.defs.specs.Meaning.Cell.{Covered}
use Rattle.geom.proofs.Parity.{count_same}
use Rattle.geom.proofs.Column.{Met}
use Rattle.geom.proofs.Cover.{S, H0, H1, W, S_spans, S_below, positive, in_order, even, cover, meet}
use Rattle.geom.specs.Units.{InUnits}
use Rattle.slabs.specs.Slab.{Neat, Opens, InSlab}
use Rattle.slabs.proofs.Lines.{slab_line}
use Rattle.slabs.proofs.Gap.{Open, met_open, open_met}
use Rattle.slabs.proofs.Slab.{place, unit_slab, slab_unit}

-- the same tests and heights
pub open_same : (n : ℕ) (S S' : ℕ → Bool) (H0 H1 H0' H1' W : ℕ → ℕ) → ((i : ℕ) → S i ≡ S' i) → ((i : ℕ) → H0 i ≡ H0' i) → ((i : ℕ) → H1 i ≡ H1' i) →
    (i j : ℕ) → Open n S H0 H1 W i j → Open n S' H0' H1' W i j
open_same n S S' H0 H1 H0' H1' W es e0 e1 i j t =
    record {
      here = t.here;
      edge = sym (es i) ∙ t.edge;
      odd = ap (λ (c : ℕ). c % 2) (count_same _ _ n (λ g l. ap₂ ◌&&◌ (sym (es g)) (ap not (sym (mids g))))) ∙ t.odd;
      low = rw (← e0 i, ← e1 i) t.low;
      high = λ g l s m. rw (← e0 g, ← e1 g) (t.high g l (es g ∙ s) (mids g ∙ m));
    }
  where
    mids : (g : ℕ) → ltb ((H0 i + H1 i) * W g) ((H0 g + H1 g) * W i) ≡ ltb ((H0' i + H1' i) * W g) ((H0' g + H1' g) * W i)
    mids g = ap₂ ltb (ap₂ (λ (x y : ℕ). (x + y) * W g) (e0 i) (e1 i)) (ap₂ (λ (x y : ℕ). (x + y) * W i) (e0 g) (e1 g))

module _ (v : List ℕ) (keeps : KeepsOrder v) (some : 0 < sides v) (a L : ℕ) (slab : Neat v a (a + L)) where
  abbrev H : ℕ → ℕ → ℕ
  H x i = height (edge_at v i) (a + x) 1

  L_pos : 0 < L
  L_pos = omega (arith, slab.wide)

  same_S : (k : ℕ) → a ≤ k → k < a + L → (i : ℕ) → S v k i ≡ S v a i
  same_S k l r i = go (ltb i (sides v)) refl
    where
      go : (b : Bool) → ltb i (sides v) ≡ b → (b && spans (edge_at v i) k) ≡ (b && spans (edge_at v i) a)
      go true q = slab.steady i k (ltb-true _ _ q) l r
      go false q = refl

  left_of : (i : ℕ) → S v a i ≡ true → (edge_at v i).xl ≤ a
  left_of i s = leb-true _ _ (and_left (leb (edge_at v i).xl a) _ (S_spans v a i s))

  right_of : (i : ℕ) → S v a i ≡ true → a + L ≤ (edge_at v i).xr
  right_of i s = go (slab.steady i (a + L - 1) (S_below v a i s) (omega (arith, L_pos)) (omega (arith, L_pos)) ∙ S_spans v a i s)
    where
      go : spans (edge_at v i) (a + L - 1) ≡ true → a + L ≤ (edge_at v i).xr
      go q = omega (arith, ltb-true (a + L - 1) (edge_at v i).xr (and_right (leb (edge_at v i).xl (a + L - 1)) _ q))

  line : (i x y : ℕ) → S v a i ≡ true → x + y ≡ L → L * H y i ≡ x * H 0 i + y * H L i
  line i x y s e =
      let z : a + 0 ≡ a = omega arith in
      ap (λ (n : ℕ). n * H y i) (sym e)
      ∙ slab_line (edge_at v i) a (a + L) (a + y) x y (left_of i s) (right_of i s) refl (omega arith)
      ∙ ap (λ (n : ℕ). x * height (edge_at v i) n 1 + y * H L i) (sym z)

  ord : (i j : ℕ) → S v a i ≡ true → S v a j ≡ true → H 0 i * W v a j < H 0 j * W v a i → H L j * W v a i < H L i * W v a j → ⊥
  ord i j si sj h k =
      let z : a + 0 ≡ a = omega arith in
      slab.order i j (S_below v a i si) (S_below v a j sj) (S_spans v a i si) (S_spans v a j sj)
      (subst (λ (n : ℕ). height (edge_at v i) n 1 * width (edge_at v j) < height (edge_at v j) n 1 * width (edge_at v i)) z h) k

  next_is : (x i : ℕ) → H1 v (a + x) i ≡ H (x + 1) i
  next_is x i = let z : a + x + 1 ≡ a + (x + 1) = omega arith in ap (λ (n : ℕ). height (edge_at v i) n 1) z

  ordv : (x : ℕ) → x < L → (i j : ℕ) → S v a i ≡ true → S v a j ≡ true → H x i * W v a j < H x j * W v a i → H (x + 1) j * W v a i < H (x + 1) i * W v a j → ⊥
  unfolding KeepsOrder
  ordv x l i j si sj h k =
      in_order v (a + x) (keeps (a + x)) i j (same_S (a + x) (omega arith) (omega arith) i ∙ si) (same_S (a + x) (omega arith) (omega arith) j ∙ sj) h
      (rw (next_is x i, next_is x j) k)

  abbrev Slab : ℕ → Type 0
  Slab j = Met (sides v) (S v a) (H 0) (H L) (W v a) (positive v a) ord j

  to_slab : (i j : ℕ) → Opens v a (a + L) i j → Slab j
  to_slab i j t =
      let z : a + 0 ≡ a = omega arith in
      open_met (sides v) (S v a) (H 0) (H L) (W v a) (positive v a) ord (S_below v a) (even v a some) i j
      (record {
        here = t.here;
        edge = ap₂ ◌&&◌ (lt-ltb i (sides v) t.here) t.edge;
        odd = ap (λ (c : ℕ). c % 2) (count_same _ _ (sides v) (λ g l. ap₂ ◌&&◌ (ap (λ (b : Bool). b && spans (edge_at v g) a) (lt-ltb g (sides v) l)) (ap (λ (n : ℕ). not (ltb ((height (edge_at v i) n 1 + H L i) * W v a g) ((height (edge_at v g) n 1 + H L g) * W v a i))) z))) ∙ t.odd;
        low = rw z t.low;
        high = λ g l s m. rw z (t.high g l (S_spans v a g s) (rw z at m));
      })

  of_slab : (j : ℕ) → Slab j → InSlab v a (a + L) j
  of_slab j t =
      let z : a + 0 ≡ a = omega arith in
      let e = met_open (sides v) (S v a) (H 0) (H L) (W v a) (positive v a) ord (S_below v a) j t in
      record {
        i = t.a;
        opens =
            record {
              here = e.here;
              edge = S_spans v a t.a e.edge;
              odd = ap (λ (c : ℕ). c % 2) (count_same _ _ (sides v) (λ g l. ap₂ ◌&&◌ (sym (ap (λ (b : Bool). b && spans (edge_at v g) a) (lt-ltb g (sides v) l))) (ap (λ (n : ℕ). not (ltb ((height (edge_at v t.a) n 1 + H L t.a) * W v a g) ((height (edge_at v g) n 1 + H L g) * W v a t.a))) (sym z)))) ∙ e.odd;
              low = rw z at e.low;
              high = λ g l s m. rw z at (e.high g l (ap₂ ◌&&◌ (lt-ltb g (sides v) l) s) (rw z m));
            };
      }

  -- a row open in the slab is covered in a unit column of it
  pub slab_covered : (j : ℕ) → InSlab v a (a + L) j → InUnits v a (a + L) j
  unfolding KeepsOrder
  slab_covered j t = from (to_slab t.i j t.opens)
    where
      from : Slab j → InUnits v a (a + L) j
      from m =
          let p = place (sides v) (S v a) H (W v a) L (positive v a) line ord L_pos j m in
          at p.v p.here (slab_unit (sides v) (S v a) H (W v a) L (positive v a) line ord p.v p.here (ordv p.v p.here) j m p.low p.high)
        where
          at : (x : ℕ) (l : x < L) → Met (sides v) (S v a) (H x) (H (x + 1)) (W v a) (positive v a) (ordv x l) j → InUnits v a (a + L) j
          at x l u =
              record {
                k = a + x;
                from = omega arith;
                to = omega arith;
                there =
                    cover v (a + x) (keeps (a + x)) j
                    (open_met (sides v) (S v (a + x)) (H0 v (a + x)) (H1 v (a + x)) (W v (a + x)) (positive v (a + x)) (in_order v (a + x) (keeps (a + x))) (S_below v (a + x)) (even v (a + x) some) u.a j
                    (open_same (sides v) (S v a) (S v (a + x)) (H x) (H (x + 1)) (H0 v (a + x)) (H1 v (a + x)) (W v a) (λ i. sym (same_S (a + x) (omega arith) (omega arith) i)) (λ i. refl) (λ i. sym (next_is x i)) u.a j
                    (met_open (sides v) (S v a) (H x) (H (x + 1)) (W v a) (positive v a) (ordv x l) (S_below v a) j u)));
              }

  -- a row covered in a unit column of the slab is open in the slab
  pub covered_slab : (x j : ℕ) → x < L → Covered v 1 (a + x) j → InSlab v a (a + L) j
  unfolding KeepsOrder
  covered_slab x j l c =
      of_slab j
      (unit_slab (sides v) (S v a) H (W v a) L (positive v a) line ord x l (ordv x l) j
      (open_met (sides v) (S v a) (H x) (H (x + 1)) (W v a) (positive v a) (ordv x l) (S_below v a) (even v a some) m.a j
      (open_same (sides v) (S v (a + x)) (S v a) (H0 v (a + x)) (H1 v (a + x)) (H x) (H (x + 1)) (W v a) (same_S (a + x) (omega arith) (omega arith)) (λ i. refl) (next_is x) m.a j
      (met_open (sides v) (S v (a + x)) (H0 v (a + x)) (H1 v (a + x)) (W v (a + x)) (positive v (a + x)) (in_order v (a + x) (keeps (a + x))) (S_below v (a + x)) j m))))
    where
      m : Met (sides v) (S v (a + x)) (H0 v (a + x)) (H1 v (a + x)) (W v (a + x)) (positive v (a + x)) (in_order v (a + x) (keeps (a + x))) j
      m = meet v (a + x) (keeps (a + x)) some j c
