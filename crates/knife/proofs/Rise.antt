-- A point past which an odd number of vertical edges go up lies on the border of the inside: just right of it, or just left of it, is a
-- point inside.
-- Assumes nothing.
use mathlib.Core.Path.{◌≡◌, refl, ap, ap₂, sym, ◌∙◌}
use mathlib.Core.Logic.{⊎_elim}
use mathlib.Core.Bool.{Bool, true, false, ◌&&◌}
use mathlib.Core.List.{List}
use Prim.Native.Nat.{ℕ, zero, suc, ◌+◌, ◌*◌, ◌-◌, ◌/◌, ◌%◌, ◌≤◌, ◌<◌}
use native.Mathlib.Omega.{arith}
use native.Mathlib.Nat.{mul-le-mul_left, mul-le-mul_right, mul-lt-mul_of_pos_right, mul-pos}
use lib.Arith.{digits_div, digits_mod}
use lib.Dec.{ltb, leb, eqb}
use borrow.Author.Tests.{lt-ltb, le-ltb, le-leb, lt-leb, ltb-true, leb-true}
use Rattle.laws.proofs.Tests.{and_left, and_right}
use Rattle.defs.specs.Meaning.Outline.{Edge, edge_at, sides, height, width, spans, passes_below, passes_through, count_to, count_below}
use Rattle.defs.specs.Meaning.Turn.{greatest}
use Rattle.geom.proofs.Strip.{le_or_lt}
use Rattle.geom.proofs.Parity.{count_same}
use Rattle.geom.proofs.Line.{height_is}
use Rattle.geom.proofs.Extent.{at_most}
use Rattle.knife.specs.Knife.{Near, InsideNear, Touches, passes_up, RisePoint}
use Rattle.knife.proofs.Border.{even_or_odd, less_not_equal, more_not_equal, wide_enough}
use Rattle.knife.proofs.Sides.{right_under, left_under, sides_even}

-- The height of an edge one step beside x = k against a height a little above q/d. H is its height at k; h' that beside it.
module _ (h' H u v w q m : ℕ) (beside : h' + u ≡ H * (m * m) + v) (um : u < m) (vm : v < m) (narrow : w < m) (wide : 0 < w) where
  beside_tests : (ltb h' ((q * m + 1) * m * w) ≡ leb H (q * w)) × (eqb h' ((q * m + 1) * m * w) ≡ false)
  beside_tests = ⊎_elim under over (le_or_lt H (q * w))
    where
      under : H ≤ q * w → (ltb h' ((q * m + 1) * m * w) ≡ leb H (q * w)) × (eqb h' ((q * m + 1) * m * w) ≡ false)
      under l =
          let r : h' < (q * m + 1) * m * w = omega (arith, mul-le-mul_right (m * m) l, mul-le-mul_left m wide) in
          (lt-ltb h' ((q * m + 1) * m * w) r ∙ sym (le-leb H (q * w) l), less_not_equal h' ((q * m + 1) * m * w) r)

      over : q * w < H → (ltb h' ((q * m + 1) * m * w) ≡ leb H (q * w)) × (eqb h' ((q * m + 1) * m * w) ≡ false)
      over l =
          let r : (q * m + 1) * m * w < h' = omega (arith, mul-le-mul_right (m * m) l, mul-le-mul_left m narrow) in
          let r' : (q * m + 1) * m * w ≤ h' = omega arith in
          (le-ltb h' ((q * m + 1) * m * w) r' ∙ sym (lt-leb H (q * w) l), more_not_equal h' ((q * m + 1) * m * w) r)

-- One step right and one step left of x = k, at the scale N = d m m, a little above q/d.
module _ (k q d m : ℕ) (dpos : 1 ≤ d) (big : 1 < m) where
  abbrev scale : ℕ
  scale = d * (m * m)

  large : 1 < scale
  large = omega (arith, mul-le-mul_right (m * m) dpos, mul-le-mul_right m big)

  column_right : (k * scale + 1) / scale ≡ k
  column_right = digits_div k large

  rest_right : 0 < (k * scale + 1) % scale
  rest_right = omega (arith, digits_mod k large)

  right_tests : (e : Edge) → e.yl + e.yr + width e < m →
      (passes_below (k * scale + 1) ((q * m + 1) * m) scale e ≡ right_under k q d e) ×
      (passes_through (k * scale + 1) ((q * m + 1) * m) scale e ≡ false)
  unfolding passes_below passes_through
  right_tests e small = rw column_right (go (spans e k) refl)
    where
      go : (s : Bool) → spans e k ≡ s →
          (s && ltb (height e (k * scale + 1) scale) ((q * m + 1) * m * width e) ≡ s && leb (height e k 1 * d) (q * width e)) ×
          (s && eqb (height e (k * scale + 1) scale) ((q * m + 1) * m * width e) ≡ false)
      go false c = (refl, refl)
      go true c =
          beside_tests (height e (k * scale + 1) scale) (height e k 1 * d) e.yl e.yr (width e) q m
          (heights (e.xr - k) (k - e.xl) (e.xr - k - 1) (omega (arith, right)) (omega (arith, left)) (omega (arith, right)))
          (omega arith) (omega arith) (omega arith) (wide_enough e k c)
        where
          left : e.xl ≤ k
          left = leb-true e.xl k (and_left _ _ c)

          right : k < e.xr
          right = ltb-true k e.xr (and_right (leb e.xl k) _ c)

          heights : (a b a' : ℕ) → e.xr ≡ k + a → k ≡ e.xl + b → a ≡ a' + 1 →
              height e (k * scale + 1) scale + e.yl ≡ height e k 1 * d * (m * m) + e.yr
          heights a b a' ea eb ec =
              rw (
                height_is e (k * scale + 1) scale (a * scale - 1) (b * scale + 1)
                    (step scale large)
                    (omega (arith, ap (λ (x : ℕ). x * scale) eb)),
                height_is e k 1 a b (omega arith) (omega arith),
              ) (sum scale (a * scale - 1) refl (less scale large))
            where
              less : (s : ℕ) → 1 < s → a * s - 1 + 1 ≡ a * s
              less s l = omega (arith, ap (λ (x : ℕ). x * s) ec)

              step : (s : ℕ) → 1 < s → e.xr * s ≡ k * s + 1 + (a * s - 1)
              step s l = omega (arith, ap (λ (x : ℕ). x * s) ea, less s l)

              sum : (s A : ℕ) → s ≡ d * (m * m) → A + 1 ≡ a * s →
                  e.yl * A + e.yr * (b * s + 1) + e.yl ≡ (e.yl * a + e.yr * b) * d * (m * m) + e.yr
              sum s A es eA =
                  omega (arith, ap (λ (x : ℕ). e.yl * x) eA, ap (λ (x : ℕ). e.yl * a * x) es, ap (λ (x : ℕ). e.yr * b * x) es)

module _ (j q d m : ℕ) (dpos : 1 ≤ d) (big : 1 < m) where
  last : scale (suc j) q d m dpos big - 1 < scale (suc j) q d m dpos big
  last = omega (arith, large (suc j) q d m dpos big)

  column_left : (j * (d * (m * m)) + (d * (m * m) - 1)) / (d * (m * m)) ≡ j
  column_left = digits_div j last

  rest_left : 0 < (j * (d * (m * m)) + (d * (m * m) - 1)) % (d * (m * m))
  rest_left = omega (arith, digits_mod j last, large (suc j) q d m dpos big)

  spans_left : (xl xr : ℕ) → (leb xl j && ltb j xr) ≡ (ltb xl (suc j) && leb (suc j) xr)
  spans_left xl xr = ap₂ ◌&&◌ (⊎_elim a b (le_or_lt xl j)) (⊎_elim c d' (le_or_lt xr j))
    where
      a : xl ≤ j → leb xl j ≡ ltb xl (suc j)
      a l = let r : xl < suc j = omega arith in le-leb xl j l ∙ sym (lt-ltb xl (suc j) r)

      b : j < xl → leb xl j ≡ ltb xl (suc j)
      b l = let r : suc j ≤ xl = omega arith in lt-leb xl j l ∙ sym (le-ltb xl (suc j) r)

      c : xr ≤ j → ltb j xr ≡ leb (suc j) xr
      c l = let r : xr < suc j = omega arith in le-ltb j xr l ∙ sym (lt-leb (suc j) xr r)

      d' : j < xr → ltb j xr ≡ leb (suc j) xr
      d' l = let r : suc j ≤ xr = omega arith in lt-ltb j xr l ∙ sym (le-leb (suc j) xr r)

  left_tests : (e : Edge) → e.yl + e.yr + width e < m →
      (passes_below (j * (d * (m * m)) + (d * (m * m) - 1)) ((q * m + 1) * m) (d * (m * m)) e ≡ left_under (suc j) q d e) ×
      (passes_through (j * (d * (m * m)) + (d * (m * m) - 1)) ((q * m + 1) * m) (d * (m * m)) e ≡ false)
  unfolding passes_below passes_through
  left_tests e small = rw (column_left, sym (spans_left e.xl e.xr)) (go (spans e j) refl)
    where
      go : (s : Bool) → spans e j ≡ s →
          (s && ltb (height e (j * (d * (m * m)) + (d * (m * m) - 1)) (d * (m * m))) ((q * m + 1) * m * width e) ≡
          s && leb (height e (suc j) 1 * d) (q * width e)) ×
          (s && eqb (height e (j * (d * (m * m)) + (d * (m * m) - 1)) (d * (m * m))) ((q * m + 1) * m * width e) ≡ false)
      go false c = (refl, refl)
      go true c =
          beside_tests (height e (j * (d * (m * m)) + (d * (m * m) - 1)) (d * (m * m))) (height e (suc j) 1 * d) e.yr e.yl (width e)
          q m
          (heights (e.xr - suc j) (j - e.xl) (omega (arith, right)) (omega (arith, left)))
          (omega arith) (omega arith) (omega arith) (wide_enough e j c)
        where
          left : e.xl ≤ j
          left = leb-true e.xl j (and_left _ _ c)

          right : j < e.xr
          right = ltb-true j e.xr (and_right (leb e.xl j) _ c)

          heights : (a b : ℕ) → e.xr ≡ suc j + a → j ≡ e.xl + b →
              height e (j * (d * (m * m)) + (d * (m * m) - 1)) (d * (m * m)) + e.yr ≡ height e (suc j) 1 * d * (m * m) + e.yl
          heights a b ea eb =
              rw (
                height_is e (j * (d * (m * m)) + (d * (m * m) - 1)) (d * (m * m)) (a * (d * (m * m)) + 1)
                    (b * (d * (m * m)) + (d * (m * m) - 1))
                    (step (d * (m * m)) (large (suc j) q d m dpos big))
                    (omega (arith, ap (λ (x : ℕ). x * (d * (m * m))) eb)),
                height_is e (suc j) 1 a (b + 1) (omega arith) (omega arith),
              ) (sum (d * (m * m)) (d * (m * m) - 1) refl (omega (arith, large (suc j) q d m dpos big)))
            where
              step : (s : ℕ) → 1 < s → e.xr * s ≡ j * s + (s - 1) + (a * s + 1)
              step s l = omega (arith, ap (λ (x : ℕ). x * s) ea)

              sum : (s B : ℕ) → s ≡ d * (m * m) → B + 1 ≡ s →
                  e.yl * (a * s + 1) + e.yr * (b * s + B) + e.yr ≡ (e.yl * a + e.yr * (b + 1)) * d * (m * m) + e.yl
              sum s B es eB =
                  omega (arith, ap (λ (x : ℕ). e.yr * x) eB, ap (λ (x : ℕ). e.yl * a * x) es, ap (λ (x : ℕ). e.yr * (b + 1) * x) es)

-- the two points are near
module _ (k q d m n : ℕ) (dpos : 1 ≤ d) (fine : n < m) where
  room : d * n * m < d * (d * (m * m))
  room = go (d * m) (omega (arith, mul-le-mul_right m dpos))
    where
      go : (t : ℕ) → m ≤ t → d * n * m < d * (d * (m * m))
      go t l =
          let a : n * (d * m) < m * (d * m) = mul-lt-mul_of_pos_right fine (mul-pos dpos (omega arith)) in
          omega (arith, a, mul-le-mul_right (d * (m * m)) dpos)

  room_1 : d * n < d * (d * (m * m))
  room_1 = omega (arith, room, mul-le-mul_left (d * n) (positive))
    where
      positive : 1 ≤ m
      positive = omega arith

  near_right : Near n (k * d) q d (k * (d * (m * m)) + 1) ((q * m + 1) * m) (d * (m * m))
  near_right =
      record { left = omega (arith, room_1); right = omega (arith, room_1); low = omega (arith, room); high = omega (arith, room) }

  near_left : (x : ℕ) → x + 1 ≡ k * (d * (m * m)) → Near n (k * d) q d x ((q * m + 1) * m) (d * (m * m))
  near_left x is =
      let s : (x + 1) * (d * n) ≡ k * (d * (m * m)) * (d * n) = ap (λ (y : ℕ). y * (d * n)) is in
      record { left = omega (arith, room_1, s); right = omega (arith, room_1, s); low = omega (arith, room); high = omega (arith, room) }

none_left : (q d : ℕ) (f : ℕ → Edge) (n : ℕ) → count_to (λ i. left_under 0 q d (f i)) n ≡ 0
unfolding count_to
none_left q d f zero = refl
none_left q d f (suc n) =
    rw (none_left q d f n, le-ltb (f n).xl 0 (omega arith)) refl

no_count : (f : ℕ → Bool) → count_to f 0 ≡ 0
unfolding count_to
no_count f = refl

-- A point of vertical edges that go up past it an odd number of times touches the inside.
pub rise_touches : (o : List ℕ) (k q d : ℕ) → RisePoint o k q d → Touches o (k * d) q d
unfolding Touches count_below
rise_touches o k q d t n some = ⊎_elim left right (even_or_odd (count_to (λ i. right_under k q d (edge_at o i)) (sides o)))
  where
    sum : ℕ → ℕ
    sum i = (edge_at o i).yl + (edge_at o i).yr + width (edge_at o i)

    m : ℕ
    m = n + 1 + greatest sum (sides o)

    big : 1 < m
    big = omega arith

    small : (i : ℕ) → i < sides o → (edge_at o i).yl + (edge_at o i).yr + width (edge_at o i) < m
    small i l = omega (arith, at_most sum (sides o) i l)

    point' : 1 ≤ d * (m * m)
    point' = omega (arith, large k q d m t.point big)

    some_sides : 0 < sides o
    some_sides = ⊎_elim (λ z. absurd (omega (arith, t.odd, none z))) (λ l. l) (le_or_lt (sides o) 0)
      where
        none : sides o ≤ 0 → count_to (λ i. passes_up k q d (edge_at o i)) (sides o) ≡ 0
        none z =
            let e : sides o ≡ 0 = omega arith in
            ap (count_to (λ i. passes_up k q d (edge_at o i))) e ∙ no_count (λ i. passes_up k q d (edge_at o i))

    right : count_to (λ i. right_under k q d (edge_at o i)) (sides o) % 2 ≡ 1 → InsideNear o (k * d) q d n
    right odd =
        record {
          p' = k * (d * (m * m)) + 1;
          q' = (q * m + 1) * m;
          d' = d * (m * m);
          inside =
              record {
                point = point';
                between = rest_right k q d m t.point big;
                odd =
                    ap (λ (c : ℕ). c % 2)
                    (count_same _ (λ i. right_under k q d (edge_at o i)) (sides o)
                    (λ i l. (right_tests k q d m t.point big (edge_at o i) (small i l)).0)) ∙
                    odd;
                clear = λ i l. (right_tests k q d m t.point big (edge_at o i) (small i l)).1;
              };
          near = near_right k q d m n t.point (omega arith);
        }

    left_of : (k : ℕ) → count_to (λ i. left_under k q d (edge_at o i)) (sides o) % 2 ≡ 1 → InsideNear o (k * d) q d n
    left_of zero odd = absurd (omega (arith, odd, none_left q d (edge_at o) (sides o)))
    left_of (suc j) odd =
        record {
          p' = j * (d * (m * m)) + (d * (m * m) - 1);
          q' = (q * m + 1) * m;
          d' = d * (m * m);
          inside =
              record {
                point = point';
                between = rest_left j q d m t.point big;
                odd =
                    ap (λ (c : ℕ). c % 2)
                    (count_same _ (λ i. left_under (suc j) q d (edge_at o i)) (sides o)
                    (λ i l. (left_tests j q d m t.point big (edge_at o i) (small i l)).0)) ∙
                    odd;
                clear = λ i l. (left_tests j q d m t.point big (edge_at o i) (small i l)).1;
              };
          near = near_left (suc j) q d m n t.point (omega arith) (j * (d * (m * m)) + (d * (m * m) - 1)) (step (d * (m * m)) point');
        }
      where
        step : (s : ℕ) → 1 ≤ s → j * s + (s - 1) + 1 ≡ suc j * s
        step s l = omega arith

    left : count_to (λ i. right_under k q d (edge_at o i)) (sides o) % 2 ≡ 0 → InsideNear o (k * d) q d n
    left even = left_of k (omega (arith, even, t.odd, sides_even o k q d some_sides))
