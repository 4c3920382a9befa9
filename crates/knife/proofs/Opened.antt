-- The inside is open: a point inside lies in the interior. All points near enough stand in the same unit column and on the same side
-- of each edge.
-- Assumes nothing.
use mathlib.Core.Path.{◌≡◌, refl, ap, sym, ◌∙◌}
use mathlib.Core.Logic.{⊎_elim}
use mathlib.Core.Bool.{Bool, true, false, ◌&&◌}
use mathlib.Core.List.{List}
use Prim.Native.Nat.{ℕ, suc, ◌+◌, ◌*◌, ◌-◌, ◌/◌, ◌%◌, ◌≤◌, ◌<◌}
use native.Mathlib.Omega.{arith}
use native.Mathlib.Nat.{mul-le-mul_left, mul-le-mul_right, mul-lt-mul_of_pos_right, lt_of_mul-lt-mul_right, div-add-mod, mod-lt}
use lib.Arith.{digits_div}
use lib.Dec.{ltb, leb, eqb}
use borrow.Author.Tests.{lt-ltb, le-ltb, ne_eqb, ltb-true, leb-true, eqb-false}
use Rattle.laws.proofs.Tests.{and_left, and_right}
use Rattle.laws.proofs.Order.{compare3}
use Rattle.defs.specs.Meaning.Outline.{Edge, edge_at, sides, height, width, spans, passes_below, passes_through, count_below, Inside}
use Rattle.defs.specs.Meaning.Turn.{greatest}
use Rattle.geom.proofs.Parity.{count_same}
use Rattle.geom.proofs.Line.{height_is}
use Rattle.geom.proofs.Extent.{at_most}
use Rattle.knife.specs.Knife.{Near, Interior}

-- A line of heights yl, yr over distances A, B against a height q, w times; near by A', B', q'. Near points are compared at the
-- scales X and Z, to within t.
module _ (yl yr A B A' B' w q q' X Z t : ℕ) (fine : (yl + yr + w) * t < X) where
  stays_below : A' * Z < A * X + t → B' * Z < B * X + t → q * X < q' * Z + t →
      yl * A + yr * B < q * w → yl * A' + yr * B' < q' * w
  stays_below a b c h =
      lt_of_mul-lt-mul_right Z (sum (mul-le-mul_left yl a) (mul-le-mul_left yr b) (mul-le-mul_left w c) (mul-le-mul_right X h))
    where
      sum : yl * suc (A' * Z) ≤ yl * (A * X + t) → yr * suc (B' * Z) ≤ yr * (B * X + t) → w * suc (q * X) ≤ w * (q' * Z + t) →
          suc (yl * A + yr * B) * X ≤ q * w * X → (yl * A' + yr * B') * Z < q' * w * Z
      sum a b c h = omega arith

  stays_above : A * X < A' * Z + t → B * X < B' * Z + t → q' * Z < q * X + t →
      q * w < yl * A + yr * B → q' * w < yl * A' + yr * B'
  stays_above a b c h =
      lt_of_mul-lt-mul_right Z (sum (mul-le-mul_left yl a) (mul-le-mul_left yr b) (mul-le-mul_left w c) (mul-le-mul_right X h))
    where
      sum : yl * suc (A * X) ≤ yl * (A' * Z + t) → yr * suc (B * X) ≤ yr * (B' * Z + t) → w * suc (q' * Z) ≤ w * (q * X + t) →
          suc (q * w) * X ≤ (yl * A + yr * B) * X → q' * w * Z < (yl * A' + yr * B') * Z
      sum a b c h = omega arith

-- A point near p/d, q/d, where p/d is not whole.
module _
    (p q d p' q' d' n : ℕ)
    (dpos : 1 ≤ d)
    (dpos' : 1 ≤ d')
    (between : 0 < p % d)
    (small : d ≤ n)
    (near : Near n p q d p' q' d')
  where
    past_left : p / d * d' < p'
    past_left = go (p / d) (omega (arith, div-add-mod p d))
      where
        go : (k : ℕ) → k * d + 1 ≤ p → k * d' < p'
        go k h = lt_of_mul-lt-mul_right (d * n) (omega (arith, mul-le-mul_right (d' * n) h, near.left, mul-le-mul_right d' small))

    before_right : p' < (p / d + 1) * d'
    before_right = go (p / d + 1) (omega (arith, div-add-mod p d, mod-lt p dpos))
      where
        go : (k : ℕ) → p + 1 ≤ k * d → p' < k * d'
        go k h = lt_of_mul-lt-mul_right (d * n) (omega (arith, mul-le-mul_right (d' * n) h, near.right, mul-le-mul_right d' small))

    same_column : p' / d' ≡ p / d
    same_column = go (p / d) past_left before_right
      where
        go : (k : ℕ) → k * d' < p' → p' < (k + 1) * d' → p' / d' ≡ k
        go k l r =
            let s : p' ≡ k * d' + (p' - k * d') = omega arith in
            let b : p' - k * d' < d' = omega arith in
            ap (λ (a : ℕ). a / d') s ∙ digits_div k b

    -- an edge over the column
    module _ (e : Edge) (left : e.xl ≤ p / d) (right : p / d < e.xr) (fine : (e.yl + e.yr + width e) * d < n) where
      -- distances to its ends
      record Ends : Type 0 where
        A : ℕ
        B : ℕ
        A' : ℕ
        B' : ℕ
        a : e.xr * d ≡ p + A
        b : p ≡ e.xl * d + B
        a' : e.xr * d' ≡ p' + A'
        b' : p' ≡ e.xl * d' + B'

      ends : Ends
      ends =
          record {
            A = e.xr * d - p;
            B = p - e.xl * d;
            A' = e.xr * d' - p';
            B' = p' - e.xl * d';
            a = omega (arith, div-add-mod p d, mod-lt p dpos, mul-le-mul_right d right);
            b = omega (arith, div-add-mod p d, mul-le-mul_right d left);
            a' = omega (arith, before_right, mul-le-mul_right d' right);
            b' = omega (arith, past_left, mul-le-mul_right d' left);
          }

      fine' : (e.yl + e.yr + width e) * (d * d') < d' * n
      fine' = go (e.yl + e.yr + width e) fine
        where
          go : (s : ℕ) → s * d < n → s * (d * d') < d' * n
          go s h = omega (arith, mul-lt-mul_of_pos_right h dpos')

      below_stays : height e p d < q * width e → height e p' d' < q' * width e
      below_stays h = go ends
        where
          go : Ends → height e p' d' < q' * width e
          go t =
              rw (height_is e p' d' t.A' t.B' t.a' t.b')
              (stays_below e.yl e.yr t.A t.B t.A' t.B' (width e) q q' (d' * n) (d * n) (d * d') fine'
              (omega (arith, ap (λ (x : ℕ). x * (d * n)) t.a', ap (λ (x : ℕ). x * (d' * n)) t.a, near.left))
              (omega (arith, ap (λ (x : ℕ). x * (d * n)) t.b', ap (λ (x : ℕ). x * (d' * n)) t.b, near.right))
              (omega (arith, near.low))
              (rw (height_is e p d t.A t.B t.a t.b) at h))

      above_stays : q * width e < height e p d → q' * width e < height e p' d'
      above_stays h = go ends
        where
          go : Ends → q' * width e < height e p' d'
          go t =
              rw (height_is e p' d' t.A' t.B' t.a' t.b')
              (stays_above e.yl e.yr t.A t.B t.A' t.B' (width e) q q' (d' * n) (d * n) (d * d') fine'
              (omega (arith, ap (λ (x : ℕ). x * (d * n)) t.a', ap (λ (x : ℕ). x * (d' * n)) t.a, near.right))
              (omega (arith, ap (λ (x : ℕ). x * (d * n)) t.b', ap (λ (x : ℕ). x * (d' * n)) t.b, near.left))
              (omega (arith, near.high))
              (rw (height_is e p d t.A t.B t.a t.b) at h))

    same_tests : (e : Edge) → (e.yl + e.yr + width e) * d < n → passes_through p q d e ≡ false →
        (passes_below p' q' d' e ≡ passes_below p q d e) × (passes_through p' q' d' e ≡ false)
    unfolding passes_below passes_through
    same_tests e fine t = rw same_column (go (spans e (p / d)) refl t)
      where
        go : (s : Bool) → spans e (p / d) ≡ s → s && eqb (height e p d) (q * width e) ≡ false →
            (s && ltb (height e p' d') (q' * width e) ≡ s && ltb (height e p d) (q * width e)) ×
            (s && eqb (height e p' d') (q' * width e) ≡ false)
        go false c t = (refl, refl)
        go true c t =
            ⊎_elim
            (λ h.
            let g = below_stays e left right fine h in (
              lt-ltb (height e p' d') (q' * width e) g ∙ sym (lt-ltb (height e p d) (q * width e) h),
              ne_eqb (height e p' d') (q' * width e) (λ s. omega arith),
            ))
            (⊎_elim (λ h. absurd (eqb-false (height e p d) (q * width e) t h))
            (λ h.
            let g = above_stays e left right fine h in (
              le-ltb (height e p' d') (q' * width e) (omega arith) ∙ sym (le-ltb (height e p d) (q * width e) (omega arith)),
              ne_eqb (height e p' d') (q' * width e) (λ s. omega arith),
            )))
            (compare3 (height e p d) (q * width e))
          where
            left : e.xl ≤ p / d
            left = leb-true e.xl (p / d) (and_left _ _ c)

            right : p / d < e.xr
            right = ltb-true (p / d) e.xr (and_right (leb e.xl (p / d)) _ c)

-- A point inside lies in the interior.
pub inside_interior : (o : List ℕ) (p q d : ℕ) → Inside o p q d → Interior o p q d
unfolding count_below
inside_interior o p q d i =
    record {
      n = n;
      some = omega (arith, small, i.point);
      all = λ p' q' d' point between near.
          record {
            point = point;
            between = between;
            odd =
                ap (λ (c : ℕ). c % 2)
                (count_same _ (λ k. passes_below p q d (edge_at o k)) (sides o) (λ k l. (same p' q' d' point near k l).0)) ∙ i.odd;
            clear = λ k l. (same p' q' d' point near k l).1;
          };
    }
  where
    sum : ℕ → ℕ
    sum k = (edge_at o k).yl + (edge_at o k).yr + width (edge_at o k)

    n : ℕ
    n = (greatest sum (sides o) + 1) * d

    small : d ≤ n
    small = omega arith

    fine : (k : ℕ) → k < sides o → sum k * d < n
    fine k l = omega (arith, mul-le-mul_right d (at_most sum (sides o) k l), i.point)

    same : (p' q' d' : ℕ) → 1 ≤ d' → Near n p q d p' q' d' → (k : ℕ) → k < sides o →
        (passes_below p' q' d' (edge_at o k) ≡ passes_below p q d (edge_at o k)) × (passes_through p' q' d' (edge_at o k) ≡ false)
    same p' q' d' point near k l =
        same_tests p q d p' q' d' n i.point point i.between small near (edge_at o k) (fine k l) (i.clear k l)
