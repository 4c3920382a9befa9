-- One small step to the right along an edge: another edge that passes through it shares a stretch with this one, if the step is small
-- enough. Assumes nothing.
use mathlib.Core.Path.{◌≡◌, ap, sym, ◌∙◌}
use mathlib.Core.Logic.{inl, ⊎_elim}
use mathlib.Core.Bool.{true, ◌&&◌}
use Prim.Native.Nat.{ℕ, ◌+◌, ◌*◌, ◌-◌, ◌/◌, ◌%◌, ◌≤◌, ◌<◌}
use native.Mathlib.Omega.{arith}
use native.Mathlib.Nat.{mul-le-mul_left, mul-le-mul_right, mul-lt-mul_of_pos_right, lt_of_mul-lt-mul_right, mul-pos, div-add-mod, mod-lt}
use lib.Arith.{digits_div, digits_mod}
use lib.Dec.{leb, eqb}
use borrow.Author.Tests.{lt-ltb, le-leb, eq-eqb, ltb-true, leb-true, eqb-true}
use Rattle.laws.proofs.Tests.{and_left, and_right, and_both}
use Rattle.laws.proofs.Order.{compare3}
use Rattle.defs.specs.Meaning.Outline.{Edge, height, width, spans, passes_through}
use Rattle.geom.proofs.Line.{height_is}
use Rattle.geom.proofs.Scale.{height_scale}
use Rattle.strokes.specs.Stroke.{OnEdge, Shared}
use Rattle.strokes.proofs.Points.{cancel, slanted_on}
use Rattle.knife.specs.Knife.{Near}
use Rattle.knife.proofs.Border.{wide_enough}

-- Two edges over the column of p/d that meet one step of 1/(d m) to the right, where their heights are h' and H', are level at p/d.
step_level : (yl yr w Yl Yr z h H h' H' m : ℕ) → h' + yl ≡ h * m + yr → H' + Yl ≡ H * m + Yr → (yl + yr) * z + (Yl + Yr) * w < m →
    H' * w ≡ h' * z → h * z ≡ H * w
step_level yl yr w Yl Yr z h H h' H' m here there small meet =
    ⊎_elim (λ l. absurd (omega (arith, sum, mul-le-mul_right m l)))
    (⊎_elim (λ e. e) (λ l. absurd (omega (arith, sum, mul-le-mul_right m l)))) (compare3 (h * z) (H * w))
  where
    sum : H * w * m + Yr * w + yl * z ≡ h * z * m + yr * z + Yl * w
    sum = omega (arith, ap (λ (x : ℕ). x * z) here, ap (λ (x : ℕ). x * w) there)

-- The height of an edge one step to the right of p/d.
one_step : (e : Edge) (p d m : ℕ) → e.xl * d ≤ p → p ≤ e.xr * d → p * m + 1 ≤ e.xr * (d * m) →
    height e (p * m + 1) (d * m) + e.yl ≡ height e p d * m + e.yr
one_step e p d m l r r' =
    go (e.xr * d - p) (p - e.xl * d) (e.xr * (d * m) - (p * m + 1)) (omega arith) (omega arith) (omega arith)
  where
    go : (A B A' : ℕ) → e.xr * d ≡ p + A → p ≡ e.xl * d + B → e.xr * (d * m) ≡ p * m + 1 + A' →
        height e (p * m + 1) (d * m) + e.yl ≡ height e p d * m + e.yr
    go A B A' a b a' =
        rw (
          height_is e (p * m + 1) (d * m) A' (B * m + 1) a' (omega (arith, ap (λ (x : ℕ). x * m) b)),
          height_is e p d A B a b,
        ) (sum e.yl e.yr (omega (arith, ap (λ (x : ℕ). x * m) a, a')))
      where
        sum : (yl yr : ℕ) → A' + 1 ≡ A * m → yl * A' + yr * (B * m + 1) + yl ≡ (yl * A + yr * B) * m + yr
        sum yl yr s = omega (arith, ap (λ (x : ℕ). yl * x) s)

-- One step to the right along an edge, and one to the left, are near. The edge is given by its width and the heights of its ends.
module _ (w yl yr d m n : ℕ) (dpos : 1 ≤ d) (wide : 0 < w) (fine : n * (yl + yr + 1) < m) where
  thin : (t : ℕ) → t ≤ yl + yr + 1 → t * (d * n) < d * (d * m * w)
  thin t l = omega (arith, a, b, c, mul-le-mul_left (n * d) l)
    where
      a : n * (yl + yr + 1) * d < m * d
      a = mul-lt-mul_of_pos_right fine dpos

      b : m * d ≤ m * d * w
      b = omega (arith, mul-le-mul_left (m * d) wide)

      c : m * d * w ≤ d * (m * d * w)
      c = omega (arith, mul-le-mul_right (m * d * w) dpos)

  thin_across : w * (d * n) < d * (d * m * w)
  thin_across = go (omega (arith, mul-le-mul_left n (let s : 1 ≤ yl + yr + 1 = omega arith in s)))
    where
      go : n < m → w * (d * n) < d * (d * m * w)
      go l = omega (arith, mul-lt-mul_of_pos_right l (mul-pos dpos wide), mul-le-mul_right (m * d * w) dpos)

  step_near : (h h' q p : ℕ) → h ≡ q * w → h' + yl ≡ h * m + yr → Near n p q d ((p * m + 1) * w) h' (d * m * w)
  step_near h h' q p on step =
      record {
        left = omega (arith, thin_across);
        right = omega (arith, thin_across);
        low = omega (arith, thin yl (omega arith), ap (λ (x : ℕ). x * (d * n)) step, ap (λ (x : ℕ). x * (d * m * n)) on);
        high = omega (arith, thin yr (omega arith), ap (λ (x : ℕ). x * (d * n)) step, ap (λ (x : ℕ). x * (d * m * n)) on);
      }

  pub back_near : (h h' q p x : ℕ) → x + 1 ≡ p * m → h ≡ q * w → h' + yr ≡ h * m + yl → Near n p q d (x * w) h' (d * m * w)
  back_near h h' q p x is on step =
      record {
        left = omega (arith, thin_across, ap (λ (y : ℕ). y * (w * d * n)) is);
        right = omega (arith, thin_across, ap (λ (y : ℕ). y * (w * d * n)) is);
        low = omega (arith, thin yr (omega arith), ap (λ (x : ℕ). x * (d * n)) step, ap (λ (x : ℕ). x * (d * m * n)) on);
        high = omega (arith, thin yl (omega arith), ap (λ (x : ℕ). x * (d * n)) step, ap (λ (x : ℕ). x * (d * m * n)) on);
      }

-- A point p/d of the edge e that is not its right end, and the scale m.
pub record Step (e : Edge) (p d m : ℕ) : Type 0 where
  pub point : 1 ≤ d
  pub fine : 1 < m
  pub left : e.xl * d ≤ p
  pub right : p < e.xr * d

-- one step of 1/(d m) to the right along the edge
abbrev pub step_x : Edge → ℕ → ℕ → ℕ
step_x e p m = (p * m + 1) * width e

abbrev pub step_y : Edge → ℕ → ℕ → ℕ → ℕ
step_y e p d m = height e (p * m + 1) (d * m)

abbrev pub step_d : Edge → ℕ → ℕ → ℕ
step_d e d m = d * m * width e

module _ {e : Edge} {p d m : ℕ} (s : Step e p d m) where
  -- the column of p/d
  foot : p / d * d ≤ p
  foot = omega (arith, div-add-mod p d)

  head : p + 1 ≤ (p / d + 1) * d
  head = omega (arith, div-add-mod p d, mod-lt p s.point)

  spans_low : e.xl ≤ p / d
  spans_low = let r : e.xl < p / d + 1 = lt_of_mul-lt-mul_right d (omega (arith, head, s.left)) in omega arith

  spans_high : p / d < e.xr
  spans_high = lt_of_mul-lt-mul_right d (omega (arith, foot, s.right))

  spans_here : spans e (p / d) ≡ true
  spans_here = and_both (le-leb e.xl (p / d) spans_low) (lt-ltb (p / d) e.xr spans_high)

  wide : 0 < width e
  wide = wide_enough e (p / d) spans_here

  inner : (p % d * m + 1) * width e < step_d e d m
  inner = go (p % d) (mod-lt p s.point)
    where
      go : (r : ℕ) → r < d → (r * m + 1) * width e < d * m * width e
      go r l = mul-lt-mul_of_pos_right (let k : r * m + 1 < d * m = omega (arith, mul-le-mul_right m l, s.fine) in k) wide

  pub step_point : 1 ≤ step_d e d m
  step_point = omega (arith, inner)

  split : step_x e p m ≡ p / d * step_d e d m + (p % d * m + 1) * width e
  split = go (p / d) (p % d) (width e) (omega (arith, div-add-mod p d))
    where
      go : (k r w : ℕ) → p ≡ k * d + r → (p * m + 1) * w ≡ k * (d * m * w) + (r * m + 1) * w
      go k r w e = omega (arith, ap (λ (x : ℕ). x * (m * w)) e)

  step_column : step_x e p m / step_d e d m ≡ p / d
  step_column = ap (λ (x : ℕ). x / step_d e d m) split ∙ digits_div (p / d) inner

  pub step_rest : 0 < step_x e p m % step_d e d m
  step_rest =
      omega (
        arith,
        ap (λ (x : ℕ). x % step_d e d m) split ∙ digits_mod (p / d) inner,
        mul-pos (let k : 0 < p % d * m + 1 = omega arith in k) wide,
      )

  pub step_own : passes_through (step_x e p m) (step_y e p d m) (step_d e d m) e ≡ true
  unfolding passes_through
  step_own = rw step_column (and_both spans_here (eq-eqb _ _ (height_scale e (p * m + 1) (d * m) (width e))))

  -- an edge over the column of p/d reaches from p/d to the step
  module _ (g : Edge) (low : g.xl ≤ p / d) (high : p / d < g.xr) where
    over_left : g.xl * d ≤ p
    over_left = omega (arith, mul-le-mul_right d low, foot)

    over_right : p ≤ g.xr * d
    over_right = omega (arith, mul-le-mul_right d high, head)

    over_step : p * m + 1 ≤ g.xr * (d * m)
    over_step = go (p / d) head high
      where
        go : (k : ℕ) → p + 1 ≤ (k + 1) * d → k < g.xr → p * m + 1 ≤ g.xr * (d * m)
        go k l h = omega (arith, s.fine, mul-le-mul_right m l, mul-le-mul_right (d * m) h)

    over_on : height g (p * m + 1) (d * m) + g.yl ≡ height g p d * m + g.yr
    over_on = one_step g p d m over_left over_right over_step

    on_here : (q : ℕ) → height g p d ≡ q * width g → OnEdge g p q d
    on_here q on = slanted_on g p q d (omega arith) s.point over_left over_right on

    on_step : height g (step_x e p m) (step_d e d m) ≡ step_y e p d m * width g → OnEdge g (step_x e p m) (step_y e p d m) (step_d e d m)
    on_step on =
        slanted_on g _ _ _ (omega arith) step_point
        (go g.xl (width e) over_left) (omega (arith, mul-le-mul_right (width e) over_step)) on
      where
        go : (x w : ℕ) → x * d ≤ p → x * (d * m * w) ≤ (p * m + 1) * w
        go x w l = omega (arith, mul-le-mul_right (m * w) l)

  pub step_nearby : (n q : ℕ) → n * (e.yl + e.yr + 1) < m → height e p d ≡ q * width e →
      Near n p q d (step_x e p m) (step_y e p d m) (step_d e d m)
  step_nearby n q thin on =
      step_near (width e) e.yl e.yr d m n s.point wide thin (height e p d) (step_y e p d m) q p on (over_on e spans_low spans_high)

  -- another edge that passes through the step shares the stretch from p/d on
  module _
      (q : ℕ)
      (on : height e p d ≡ q * width e)
      (f : Edge)
      (small : (e.yl + e.yr) * width f + (f.yl + f.yr) * width e < m)
      (through : passes_through (step_x e p m) (step_y e p d m) (step_d e d m) f ≡ true)
    where
      met : (spans f (p / d) ≡ true) × (height f (step_x e p m) (step_d e d m) ≡ step_y e p d m * width f)
      unfolding passes_through
      met =
          let t : (spans f (p / d) && eqb (height f (step_x e p m) (step_d e d m)) (step_y e p d m * width f)) ≡ true =
          rw step_column at through in
          (and_left _ _ t, eqb-true _ _ (and_right (spans f (p / d)) _ t))

      low : f.xl ≤ p / d
      low = leb-true f.xl (p / d) (and_left _ _ met.0)

      high : p / d < f.xr
      high = ltb-true (p / d) f.xr (and_right (leb f.xl (p / d)) _ met.0)

      level_here : height e p d * width f ≡ height f p d * width e
      level_here =
          step_level e.yl e.yr (width e) f.yl f.yr (width f) (height e p d) (height f p d) (step_y e p d m)
          (height f (p * m + 1) (d * m)) m (over_on e spans_low spans_high) (over_on f low high) small
          (sym (height_scale f (p * m + 1) (d * m) (width e)) ∙ met.1)

      pub step_shares : Shared e f
      step_shares =
          record {
            p = p;
            q = q;
            d = d;
            p' = step_x e p m;
            q' = step_y e p d m;
            d' = step_d e d m;
            on_e = on_here e spans_low spans_high q on;
            on_f = on_here f low high q (cancel _ _ (width e) wide (sym level_here ∙ rw on (omega arith)));
            on_e' = on_step e spans_low spans_high (height_scale e (p * m + 1) (d * m) (width e));
            on_f' = on_step f low high met.1;
            differ = inl (λ e. omega (arith, e, mul-pos s.point wide));
          }
