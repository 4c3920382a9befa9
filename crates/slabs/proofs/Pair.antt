-- Question 10 for two edges: an order change in some unit column, from the heights at the ends of the common span.
-- Assumes nothing.
use mathlib.Core.Path.{◌≡◌, refl, ap, ap₂, sym, subst, ◌∙◌}
use mathlib.Core.Bool.{Bool, true, false, not, ◌&&◌, ◌||◌, true≢false}
use mathlib.Core.Logic.{◌⊎◌, inl, inr, ⊎_elim}
use Prim.Native.Nat.{ℕ, zero, suc, ◌+◌, ◌*◌, ◌-◌, ◌/◌, ◌%◌, ◌≤◌, ◌<◌, min, max}
use native.Mathlib.Omega.{arith}
use native.Mathlib.Nat.{mul-le-mul_left, mul-lt-mul_of_pos_left, lt_of_mul-lt-mul_right, lt_of_mul-lt-mul_left, div-add-mod, mod-lt}
use lib.Dec.{ltb, leb, eqb}
use borrow.Author.Tests.{lt-ltb, le-leb, ltb-true, leb-true, eqb-false, ne_eqb}
use Rattle.laws.proofs.Tests.{and_left, and_right}
use Rattle.defs.specs.Meaning.Outline.{Edge, spans, width, height, lower, change_order}
use Rattle.geom.proofs.Strip.{lt_or_le}
use Rattle.slabs.specs.Change.{passesb, crossesb, changesb}
use Rattle.slabs.proofs.Lines.{slab_line}

-- Two lines over L units; A v and B v are their heights v units from the left.
pub record Lines2 (A B : ℕ → ℕ) (A0 B0 A1 B1 L : ℕ) : Type 0 where
  pub first : (u v : ℕ) → u + v ≡ L → L * A v ≡ u * A0 + v * A1
  pub second : (u v : ℕ) → u + v ≡ L → L * B v ≡ u * B0 + v * B1

-- the place where the first rises through the second, strictly inside a unit
pub record Passes (A B : ℕ → ℕ) (L : ℕ) : Type 0 where
  pub v : ℕ
  pub here : v < L
  pub under : A v < B v
  pub over : B (v + 1) < A (v + 1)

module _ {A B : ℕ → ℕ} {A0 B0 A1 B1 L : ℕ} (g : Lines2 A B A0 B0 A1 B1 L) where
  -- from a pass: the ends are strictly opposite
  module _ (p : Passes A B L) where
    under_ends : (u : ℕ) → u + p.v ≡ L → u * A0 + p.v * A1 < u * B0 + p.v * B1
    under_ends u e =
        let lp : 0 < L = omega (arith, p.here) in
        omega (arith, g.first u p.v e, g.second u p.v e, mul-lt-mul_of_pos_left p.under lp)

    over_ends : (u : ℕ) → u + (p.v + 1) ≡ L → u * B0 + (p.v + 1) * B1 < u * A0 + (p.v + 1) * A1
    over_ends u e =
        let lp : 0 < L = omega (arith, p.here) in
        omega (arith, g.first u (p.v + 1) e, g.second u (p.v + 1) e, mul-lt-mul_of_pos_left p.over lp)

    left_end : A0 < B0
    left_end = ⊎_elim (λ h. h) (λ h. absurd (go (L - (p.v + 1)) (A0 - B0) (omega (arith, p.here)) (omega arith))) (lt_or_le A0 B0)
      where
        go : (u X : ℕ) → u + (p.v + 1) ≡ L → B0 + X ≡ A0 → ⊥
        go u X e x =
            ⊎_elim
            (λ h. inner (B1 - A1) (omega arith))
            (λ h. omega (arith, under_ends (u + 1) (omega arith), ap (λ (n : ℕ). (u + 1) * n) x, mul-le-mul_left p.v h))
            (lt_or_le A1 B1)
          where
            inner : (Y : ℕ) → A1 + Y ≡ B1 → ⊥
            inner Y y =
                omega (
                  arith,
                  under_ends (u + 1) (omega arith),
                  over_ends u e,
                  ap (λ (n : ℕ). u * n) x,
                  ap (λ (n : ℕ). p.v * n) y,
                )

    right_end : B1 < A1
    right_end = ⊎_elim (λ h. h) (λ h. absurd (go (L - (p.v + 1)) (B1 - A1) (B0 - A0) (omega (arith, p.here)) (omega arith) (omega (arith, left_end)))) (lt_or_le B1 A1)
      where
        go : (u Y X : ℕ) → u + (p.v + 1) ≡ L → A1 + Y ≡ B1 → A0 + X ≡ B0 → ⊥
        go u Y X e y x =
            omega (arith, over_ends u e, ap (λ (n : ℕ). u * n) x, ap (λ (n : ℕ). p.v * n) y)

    off : (P Q : ℕ) → A0 + P ≡ B0 → B1 + Q ≡ A1 → (L * P) % (P + Q) ≡ 0 → ⊥
    off P Q ep eq z = go ((L * P) / (P + Q)) (L - (p.v + 1)) (omega (arith, p.here)) (omega (arith, div-add-mod (L * P) (P + Q)))
      where
        go : (c u : ℕ) → u + (p.v + 1) ≡ L → (P + Q) * c ≡ L * P → ⊥
        go c u e m =
            let l : p.v < c =
            lt_of_mul-lt-mul_right (P + Q)
            (omega (arith, under_ends (u + 1) (omega arith), ap (λ (n : ℕ). u * n) ep, ap (λ (n : ℕ). p.v * n) eq, ap (λ (n : ℕ). n * P) e)) in
            let r : c < p.v + 1 =
            lt_of_mul-lt-mul_right (P + Q)
            (omega (arith, over_ends u e, ap (λ (n : ℕ). u * n) ep, ap (λ (n : ℕ). p.v * n) eq, ap (λ (n : ℕ). n * P) e)) in
            omega arith

    pub pass_test : passesb A0 B0 A1 B1 L ≡ true
    unfolding passesb
    pass_test =
        ap₂ ◌&&◌ (lt-ltb _ _ left_end)
        (ap₂ ◌&&◌ (lt-ltb _ _ right_end)
        (ap not (ne_eqb _ _ (off (B0 - A0) (A1 - B1) (omega (arith, left_end)) (omega (arith, right_end))))))

  -- from the test to a pass
  pub pass_of : passesb A0 B0 A1 B1 L ≡ true → Passes A B L
  unfolding passesb
  pass_of t =
      let l = ltb-true A0 B0 (and_left (ltb A0 B0) _ t) in
      let t1 = and_right (ltb A0 B0) _ t in
      let r = ltb-true B1 A1 (and_left (ltb B1 A1) _ t1) in
      let t2 = and_right (ltb B1 A1) _ t1 in
      go (B0 - A0) (A1 - B1) (omega arith) (omega arith) (omega arith) (omega arith) (some _ t2)
    where
      some : (n : ℕ) → not (eqb n 0) ≡ true → 0 < n
      some n e = elim_eq (eqb n 0) refl e
        where
          elim_eq : (b : Bool) → eqb n 0 ≡ b → not b ≡ true → 0 < n
          elim_eq true q e = absurd (true≢false (sym e))
          elim_eq false q e = omega (arith, eqb-false n 0 q)

      go : (P Q : ℕ) → A0 + P ≡ B0 → B1 + Q ≡ A1 → 0 < P → 0 < Q → 0 < (L * P) % (P + Q) → Passes A B L
      go P Q ep eq pp qp h = at ((L * P) / (P + Q)) (L - ((L * P) / (P + Q) + 1)) (div-add-mod (L * P) (P + Q)) (mod-lt (L * P) (omega arith)) less
        where
          less : (L * P) / (P + Q) < L
          less = lt_of_mul-lt-mul_right (P + Q) (omega (arith, div-add-mod (L * P) (P + Q), positive))
            where
              positive : L * P < L * (P + Q)
              positive = mul-lt-mul_of_pos_left (omega arith) (nonzero L refl)
                where
                  nonzero : (n : ℕ) → L ≡ n → 0 < L
                  nonzero zero e = absurd (omega (arith, h, ap (λ (m : ℕ). m * P) e, div-add-mod (L * P) (P + Q)))
                  nonzero (suc n) e = omega arith

          at : (c u : ℕ) → (P + Q) * c + (L * P) % (P + Q) ≡ L * P → (L * P) % (P + Q) < P + Q → c < L → Passes A B L
          at c u d m cl = done (L - (c + 1)) (omega arith)
            where
              done : (u : ℕ) → u + (c + 1) ≡ L → Passes A B L
              done u e =
                  record {
                    v = c;
                    here = cl;
                    under =
                        lt_of_mul-lt-mul_left L
                        (omega (arith, g.first (u + 1) c (omega arith), g.second (u + 1) c (omega arith), ap (λ (n : ℕ). u * n) ep, ap (λ (n : ℕ). c * n) eq, ap (λ (n : ℕ). n * P) e, h));
                    over =
                        lt_of_mul-lt-mul_left L
                        (omega (arith, g.first u (c + 1) e, g.second u (c + 1) e, ap (λ (n : ℕ). u * n) ep, ap (λ (n : ℕ). c * n) eq, ap (λ (n : ℕ). n * P) e, m));
                  }

  pub swapped : Lines2 B A B0 A0 B1 A1 L
  swapped = record { first = g.second; second = g.first }

or_cases : (a b : Bool) → (a || b) ≡ true → (a ≡ true) ⊎ (b ≡ true)
or_cases true b e = inl refl
or_cases false b e = inr e

or_left : {a : Bool} (b : Bool) → a ≡ true → (a || b) ≡ true
or_left b e = ap (λ (c : Bool). c || b) e

or_right : (a : Bool) {b : Bool} → b ≡ true → (a || b) ≡ true
or_right true e = refl
or_right false e = e

pub record Change (e f : Edge) : Type 0 where
  pub k : ℕ
  pub in_first : k < e.xr
  pub there : change_order k e f ≡ true

-- the heights of an edge over a slab, times a number
line_times : (e : Edge) (a b w u v L : ℕ) → e.xl ≤ a → b ≤ e.xr → a + L ≡ b → u + v ≡ L →
    L * (height e (a + v) 1 * w) ≡ u * (height e a 1 * w) + v * (height e b 1 * w)
line_times e a b w u v L l r ab uv =
    ap (λ (n : ℕ). n * (height e (a + v) 1 * w)) (sym uv)
    ∙ go (height e (a + v) 1) (height e a 1) (height e b 1) (slab_line e a b (a + v) u v l r refl (omega arith))
  where
    go : (x y z : ℕ) → (u + v) * x ≡ u * y + v * z → (u + v) * (x * w) ≡ u * (y * w) + v * (z * w)
    go x y z h = omega (arith, ap (λ (n : ℕ). n * w) h)

module _ (e f : Edge) (a b : ℕ) (ea : e.xl ≤ a) (fa : f.xl ≤ a) (eb : b ≤ e.xr) (fb : b ≤ f.xr) (ab : a < b) where
  both : Lines2 (λ v. height e (a + v) 1 * width f) (λ v. height f (a + v) 1 * width e)
      (height e a 1 * width f) (height f a 1 * width e) (height e b 1 * width f) (height f b 1 * width e) (b - a)
  both =
      record {
        first = λ u v h. line_times e a b (width f) u v (b - a) ea eb (omega arith) h;
        second = λ u v h. line_times f a b (width e) u v (b - a) fa fb (omega arith) h;
      }

  abbrev crosses : Bool
  crosses = crossesb (height e a 1 * width f) (height f a 1 * width e) (height e b 1 * width f) (height f b 1 * width e) (b - a)

  spans_both : (v : ℕ) → v < b - a → (spans e (a + v) && spans f (a + v)) ≡ true
  spans_both v h =
      ap₂ ◌&&◌ (ap₂ ◌&&◌ (le-leb e.xl (a + v) (omega arith)) (lt-ltb (a + v) e.xr (omega arith)))
      (ap₂ ◌&&◌ (le-leb f.xl (a + v) (omega arith)) (lt-ltb (a + v) f.xr (omega arith)))

  shift_one : (g h : Edge) (v : ℕ) → height g (a + (v + 1)) 1 * width h < height h (a + (v + 1)) 1 * width g → lower g h (a + v + 1) ≡ true
  shift_one g h v l =
      let q : a + (v + 1) ≡ a + v + 1 = omega arith in
      subst (λ (n : ℕ). lower g h n ≡ true) q (lt-ltb (height g (a + (v + 1)) 1 * width h) (height h (a + (v + 1)) 1 * width g) l)

  change_found : crosses ≡ true → Change e f
  unfolding crossesb change_order
  change_found t = ⊎_elim (λ h. up (pass_of both h)) (λ h. down (pass_of (swapped both) h)) (or_cases _ _ t)
    where
      up : Passes (λ v. height e (a + v) 1 * width f) (λ v. height f (a + v) 1 * width e) (b - a) → Change e f
      up p =
          record {
            k = a + p.v;
            in_first = omega (arith, p.here);
            there =
                ap₂ ◌&&◌ (spans_both p.v p.here)
                (or_left (lower f e (a + p.v) && lower e f (a + p.v + 1)) (ap₂ ◌&&◌ (lt-ltb _ _ p.under) (shift_one f e p.v p.over)));
          }

      down : Passes (λ v. height f (a + v) 1 * width e) (λ v. height e (a + v) 1 * width f) (b - a) → Change e f
      down p =
          record {
            k = a + p.v;
            in_first = omega (arith, p.here);
            there =
                ap₂ ◌&&◌ (spans_both p.v p.here)
                (or_right (lower e f (a + p.v) && lower f e (a + p.v + 1)) (ap₂ ◌&&◌ (lt-ltb _ _ p.under) (shift_one e f p.v p.over)));
          }

  -- v units right of a
  change_crosses : (v : ℕ) → v < b - a → change_order (a + v) e f ≡ true → crosses ≡ true
  unfolding crossesb change_order
  change_crosses v l t =
      ⊎_elim
      (λ h.
      or_left _
      (pass_test both
      (record {
        v = v;
        here = l;
        under = ltb-true _ _ (and_left (lower e f (a + v)) _ h);
        over = next f e (and_right (lower e f (a + v)) _ h);
      })))
      (λ h.
      or_right (passesb (height e a 1 * width f) (height f a 1 * width e) (height e b 1 * width f) (height f b 1 * width e) (b - a))
      (pass_test (swapped both)
      (record {
        v = v;
        here = l;
        under = ltb-true _ _ (and_left (lower f e (a + v)) _ h);
        over = next e f (and_right (lower f e (a + v)) _ h);
      })))
      (or_cases (lower e f (a + v) && lower f e (a + v + 1)) (lower f e (a + v) && lower e f (a + v + 1))
      (and_right (spans e (a + v) && spans f (a + v)) _ t))
    where
      next : (g h : Edge) → lower g h (a + v + 1) ≡ true → height g (a + (v + 1)) 1 * width h < height h (a + (v + 1)) 1 * width g
      next g h q =
          let s : a + v + 1 ≡ a + (v + 1) = omega arith in
          ltb-true _ _ (subst (λ (n : ℕ). lower g h n ≡ true) s q)

-- the test says that the edges change order in some unit column
pub change_of : (e f : Edge) → changesb e f ≡ true → Change e f
unfolding changesb
change_of e f t =
    change_found e f (max e.xl f.xl) (min e.xr f.xr) (omega arith) (omega arith) (omega arith) (omega arith)
    (ltb-true _ _ (and_left (ltb (max e.xl f.xl) (min e.xr f.xr)) _ t))
    (and_right (ltb (max e.xl f.xl) (min e.xr f.xr)) _ t)

spans_of : (e f : Edge) (k : ℕ) → change_order k e f ≡ true → (e.xl ≤ k) × (k < e.xr) × (f.xl ≤ k) × (k < f.xr)
unfolding change_order
spans_of e f k t =
    let s = and_left (spans e k && spans f k) _ t in
    let se = and_left (spans e k) _ s in
    let sf = and_right (spans e k) _ s in (
      leb-true _ _ (and_left (leb e.xl k) _ se),
      ltb-true _ _ (and_right (leb e.xl k) _ se),
      leb-true _ _ (and_left (leb f.xl k) _ sf),
      ltb-true _ _ (and_right (leb f.xl k) _ sf),
    )

pub change_test : (e f : Edge) (k : ℕ) → change_order k e f ≡ true → changesb e f ≡ true
unfolding changesb
change_test e f k t = go (sp t)
  where
    sp : change_order k e f ≡ true → (e.xl ≤ k) × (k < e.xr) × (f.xl ≤ k) × (k < f.xr)
    sp t = spans_of e f k t

    go : (e.xl ≤ k) × (k < e.xr) × (f.xl ≤ k) × (k < f.xr) →
        (ltb (max e.xl f.xl) (min e.xr f.xr) && crossesb (height e (max e.xl f.xl) 1 * width f) (height f (max e.xl f.xl) 1 * width e) (height e (min e.xr f.xr) 1 * width f) (height f (min e.xr f.xr) 1 * width e) (min e.xr f.xr - max e.xl f.xl)) ≡ true
    go s =
        let l : max e.xl f.xl < min e.xr f.xr = omega (arith, s.0, s.1, s.2, s.3) in
        let q : k ≡ max e.xl f.xl + (k - max e.xl f.xl) = omega (arith, s.0, s.2) in
        ap₂ ◌&&◌ (lt-ltb _ _ l)
        (change_crosses e f (max e.xl f.xl) (min e.xr f.xr) (omega arith) (omega arith) (omega arith) (omega arith) l
        (k - max e.xl f.xl) (omega (arith, s.0, s.1, s.2, s.3)) (subst (λ (n : ℕ). change_order n e f ≡ true) q t))
