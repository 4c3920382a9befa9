-- A point through which an odd number of edges pass lies on the border of the inside: just above it, or just below it, is a point
-- inside.
-- Assumes nothing.
use mathlib.Core.Path.{◌≡◌, refl, ap, sym, subst, ◌∙◌}
use mathlib.Core.Logic.{◌⊎◌, inl, inr, ⊎_elim}
use mathlib.Core.Bool.{Bool, true, false, ◌&&◌}
use mathlib.Core.List.{List}
use Prim.Native.Nat.{ℕ, zero, suc, ◌+◌, ◌*◌, ◌-◌, ◌/◌, ◌%◌, ◌≤◌, ◌<◌}
use native.Mathlib.Omega.{arith}
use native.Mathlib.Nat.{mul-le-mul_right, mul-lt-mul_of_pos_right, mul-pos, mul-div-mul_right, div-add-mod}
use lib.Dec.{ltb, leb, eqb}
use borrow.Author.Tests.{lt-ltb, le-ltb, ne_eqb, eq-eqb, ltb-true, leb-true}
use Rattle.laws.proofs.Tests.{and_left, and_right}
use Rattle.laws.proofs.Order.{compare3}
use Rattle.defs.specs.Meaning.Outline.{Edge, edge_at, sides, height, width, spans, passes_below, passes_through, one, count_to, count_below}
use Rattle.defs.specs.Meaning.Turn.{greatest}
use Rattle.geom.proofs.Strip.{le_or_lt}
use Rattle.geom.proofs.Scale.{height_scale}
use Rattle.geom.proofs.Parity.{count_same}
use Rattle.geom.proofs.Extent.{at_most}
use Rattle.knife.specs.Knife.{Near, InsideNear, Touches, EdgePoint}

pub even_or_odd : (c : ℕ) → (c % 2 ≡ 0) ⊎ (c % 2 ≡ 1)
even_or_odd c = ⊎_elim (λ h. inl (omega arith)) (λ h. inr (omega arith)) (le_or_lt (c % 2) 0)

count_sum : (f g h : ℕ → Bool) (n : ℕ) → ((i : ℕ) → i < n → one (f i) ≡ one (g i) + one (h i)) → count_to f n ≡ count_to g n + count_to h n
unfolding count_to
count_sum f g h zero e = refl
count_sum f g h (suc n) e = omega (arith, count_sum f g h n (λ i l. e i (omega arith)), e n (omega arith))

-- where something is counted the height is not 0
nothing_below_0 : (p d : ℕ) (f : ℕ → Edge) (n : ℕ) → count_to (λ i. passes_below p 0 d (f i)) n ≡ 0
unfolding count_to passes_below
nothing_below_0 p d f zero = refl
nothing_below_0 p d f (suc n) = rw (nothing_below_0 p d f n, none (spans (f n) (p / d)) (height (f n) p d) (width (f n)))
  where
    none : (s : Bool) (h w : ℕ) → one (s && ltb h (0 * w)) ≡ 0
    none false h w = refl
    none true h w = ap one (le-ltb h (0 * w) (omega arith))

pub less_not_equal : (a b : ℕ) → a < b → eqb a b ≡ false
less_not_equal a b l = ne_eqb a b (λ e. omega arith)

pub more_not_equal : (a b : ℕ) → b < a → eqb a b ≡ false
more_not_equal a b l = ne_eqb a b (λ e. omega arith)

-- The height h of an edge of width w against q, at the scale m: a step of 1 up or down is smaller than any difference.
module _ (h q w m : ℕ) (narrow : w < m) (wide : 0 < w) where
  one_up : (one (ltb (h * m) ((q * m + 1) * w)) ≡ one (ltb h (q * w)) + one (eqb h (q * w))) × (eqb (h * m) ((q * m + 1) * w) ≡ false)
  one_up = ⊎_elim under (⊎_elim level over) (compare3 h (q * w))
    where
      Goal : Type 0
      Goal = (one (ltb (h * m) ((q * m + 1) * w)) ≡ one (ltb h (q * w)) + one (eqb h (q * w))) × (eqb (h * m) ((q * m + 1) * w) ≡ false)

      under : h < q * w → Goal
      under l =
          let r : h * m < (q * m + 1) * w = omega (arith, mul-le-mul_right m l) in
          rw (lt-ltb (h * m) ((q * m + 1) * w) r, lt-ltb h (q * w) l, less_not_equal h (q * w) l)
          (refl, less_not_equal (h * m) ((q * m + 1) * w) r)

      level : h ≡ q * w → Goal
      level l =
          let r : h * m < (q * m + 1) * w = omega (arith, ap (λ (x : ℕ). x * m) l) in
          let s : q * w ≤ h = omega arith in
          rw (lt-ltb (h * m) ((q * m + 1) * w) r, le-ltb h (q * w) s, eq-eqb h (q * w) l)
          (refl, less_not_equal (h * m) ((q * m + 1) * w) r)

      over : q * w < h → Goal
      over l =
          let r : (q * m + 1) * w < h * m = omega (arith, mul-le-mul_right m l) in
          let r' : (q * m + 1) * w ≤ h * m = omega arith in
          let s : q * w ≤ h = omega arith in
          rw (le-ltb (h * m) ((q * m + 1) * w) r', le-ltb h (q * w) s, more_not_equal h (q * w) l)
          (refl, more_not_equal (h * m) ((q * m + 1) * w) r)

  one_down : (Q : ℕ) → Q + 1 ≡ q * m → (ltb (h * m) (Q * w) ≡ ltb h (q * w)) × (eqb (h * m) (Q * w) ≡ false)
  one_down Q is = ⊎_elim over under (le_or_lt (q * w) h)
    where
      over : q * w ≤ h → (ltb (h * m) (Q * w) ≡ ltb h (q * w)) × (eqb (h * m) (Q * w) ≡ false)
      over l =
          let r : Q * w < h * m = omega (arith, mul-le-mul_right m l, ap (λ (x : ℕ). x * w) is) in
          let r' : Q * w ≤ h * m = omega arith in
          rw (le-ltb (h * m) (Q * w) r', le-ltb h (q * w) l) (refl, more_not_equal (h * m) (Q * w) r)

      under : h < q * w → (ltb (h * m) (Q * w) ≡ ltb h (q * w)) × (eqb (h * m) (Q * w) ≡ false)
      under l =
          let r : h * m < Q * w = omega (arith, mul-le-mul_right m l, ap (λ (x : ℕ). x * w) is) in
          rw (lt-ltb (h * m) (Q * w) r, lt-ltb h (q * w) l) (refl, less_not_equal (h * m) (Q * w) r)

pub wide_enough : (e : Edge) (k : ℕ) → spans e k ≡ true → 0 < width e
wide_enough e k c =
    let l = leb-true e.xl k (and_left _ _ c) in
    let r = ltb-true k e.xr (and_right (leb e.xl k) _ c) in
    omega arith

-- The point p/d, q/d at the scale m, a step up or down.
module _ (p q d m : ℕ) (dpos : 1 ≤ d) (mpos : 0 < m) where
  same_column : (p * m) / (d * m) ≡ p / d
  same_column = mul-div-mul_right p d mpos

  not_whole : 0 < p % d → 0 < (p * m) % (d * m)
  not_whole b =
      omega (arith, rw same_column at (div-add-mod (p * m) (d * m)), ap (λ (n : ℕ). n * m) (div-add-mod p d), mul-le-mul_right m b)

  -- what is counted below the raised point are the edges below the point and those through it
  above_tests : (e : Edge) → width e < m →
      (one (passes_below (p * m) (q * m + 1) (d * m) e) ≡ one (passes_below p q d e) + one (passes_through p q d e)) ×
      (passes_through (p * m) (q * m + 1) (d * m) e ≡ false)
  unfolding passes_below passes_through
  above_tests e narrow = rw (same_column, height_scale) (go (spans e (p / d)) refl)
    where
      go : (s : Bool) → spans e (p / d) ≡ s →
          (one (s && ltb (height e p d * m) ((q * m + 1) * width e)) ≡
          one (s && ltb (height e p d) (q * width e)) + one (s && eqb (height e p d) (q * width e))) ×
          (s && eqb (height e p d * m) ((q * m + 1) * width e) ≡ false)
      go false c = (refl, refl)
      go true c = one_up (height e p d) q (width e) m narrow (wide_enough e (p / d) c)

  -- below the lowered point, those below the point
  below_tests : (Q : ℕ) → Q + 1 ≡ q * m → (e : Edge) → width e < m →
      (passes_below (p * m) Q (d * m) e ≡ passes_below p q d e) × (passes_through (p * m) Q (d * m) e ≡ false)
  unfolding passes_below passes_through
  below_tests Q is e narrow = rw (same_column, height_scale) (go (spans e (p / d)) refl)
    where
      go : (s : Bool) → spans e (p / d) ≡ s →
          (s && ltb (height e p d * m) (Q * width e) ≡ s && ltb (height e p d) (q * width e)) ×
          (s && eqb (height e p d * m) (Q * width e) ≡ false)
      go false c = (refl, refl)
      go true c = one_down (height e p d) q (width e) m narrow (wide_enough e (p / d) c) Q is

-- the raised and the lowered point are near
module _ (p q d m n : ℕ) (dpos : 1 ≤ d) (fine : n < m) where
  area : d * n < d * (d * m)
  area = omega (arith, mul-lt-mul_of_pos_right fine dpos, mul-le-mul_right (d * m) dpos)

  near_above : Near n p q d (p * m) (q * m + 1) (d * m)
  near_above =
      record { left = omega (arith, area); right = omega (arith, area); low = omega (arith, area); high = omega (arith, area) }

  pub near_below : (Q : ℕ) → Q + 1 ≡ q * m → Near n p q d (p * m) Q (d * m)
  near_below Q is =
      let s : (Q + 1) * (d * n) ≡ q * m * (d * n) = ap (λ (x : ℕ). x * (d * n)) is in
      record { left = omega (arith, area); right = omega (arith, area); low = omega (arith, area, s); high = omega (arith, area, s) }

-- A point of an edge that is passed an odd number of times touches the inside.
pub edge_touches : (o : List ℕ) (p q d : ℕ) → EdgePoint o p q d → Touches o p q d
unfolding Touches count_below
edge_touches o p q d t n some = ⊎_elim up down (even_or_odd (count_below o p q d (sides o)))
  where
    m : ℕ
    m = n + 1 + greatest (λ i. width (edge_at o i)) (sides o)

    narrow : (i : ℕ) → i < sides o → width (edge_at o i) < m
    narrow i l = omega (arith, at_most (λ i. width (edge_at o i)) (sides o) i l)

    mpos : 0 < m
    mpos = omega arith

    point' : 1 ≤ d * m
    point' = mul-pos t.point mpos

    up : count_to (λ i. passes_below p q d (edge_at o i)) (sides o) % 2 ≡ 0 → InsideNear o p q d n
    up even =
        record {
          p' = p * m;
          q' = q * m + 1;
          d' = d * m;
          inside =
              record {
                point = point';
                between = not_whole p q d m t.point mpos t.between;
                odd =
                    let s =
                    count_sum (λ i. passes_below (p * m) (q * m + 1) (d * m) (edge_at o i)) (λ i. passes_below p q d (edge_at o i))
                    (λ i. passes_through p q d (edge_at o i)) (sides o)
                    (λ i l. (above_tests p q d m t.point mpos (edge_at o i) (narrow i l)).0) in
                    omega (arith, s, even, t.odd);
                clear = λ i l. (above_tests p q d m t.point mpos (edge_at o i) (narrow i l)).1;
              };
          near = near_above p q d m n t.point (omega arith);
        }

    down : count_to (λ i. passes_below p q d (edge_at o i)) (sides o) % 2 ≡ 1 → InsideNear o p q d n
    down odd =
        record {
          p' = p * m;
          q' = q * m - 1;
          d' = d * m;
          inside =
              record {
                point = point';
                between = not_whole p q d m t.point mpos t.between;
                odd =
                    ap (λ (c : ℕ). c % 2)
                    (count_same _ (λ i. passes_below p q d (edge_at o i)) (sides o)
                    (λ i l. (below_tests p q d m t.point mpos (q * m - 1) is (edge_at o i) (narrow i l)).0)) ∙
                    odd;
                clear = λ i l. (below_tests p q d m t.point mpos (q * m - 1) is (edge_at o i) (narrow i l)).1;
              };
          near = near_below p q d m n t.point (omega arith) (q * m - 1) is;
        }
      where
        high : 0 < q
        high =
            ⊎_elim
            (λ z.
            let e : q ≡ 0 = omega arith in
            absurd
            (let c : count_to (λ i. passes_below p q d (edge_at o i)) (sides o) ≡ 0 =
            subst (λ (y : ℕ). count_to (λ i. passes_below p y d (edge_at o i)) (sides o) ≡ 0) (sym e)
            (nothing_below_0 p d (edge_at o) (sides o)) in
            omega (arith, c, odd)))
            (λ l. l) (le_or_lt q 0)

        is : q * m - 1 + 1 ≡ q * m
        is = omega (arith, mul-pos high mpos)
