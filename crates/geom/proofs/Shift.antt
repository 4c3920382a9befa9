-- An outline shifted right by X and up by Y has its inside points shifted likewise.
-- Assumes nothing.
use mathlib.Core.Path.{◌≡◌, refl, ap, ap₂, ◌∙◌}
use mathlib.Core.Bool.{Bool, true, false, cond, ◌&&◌}
use mathlib.Core.List.{List}
use Prim.Native.Nat.{ℕ, ◌+◌, ◌*◌, ◌-◌, ◌/◌, ◌≤◌, ◌<◌}
use native.Mathlib.Omega.{arith}
use native.Mathlib.Nat.{mul-le-mul_right, add-mul-div_right, div-add-mod, mod-lt}
use lib.Dec.{ltb, leb, eqb}
use borrow.Author.Tests.{lt-ltb, le-ltb, le-leb, lt-leb, ltb-true, ltb-false, leb-true, leb-false, eqb-true, eqb-false, ne_eqb, eq-eqb}
use Rattle.laws.proofs.Tests.{and_left, and_right}
use Rattle.defs.specs.Meaning.Outline.{Edge, edge_at, edge_between, after, vx, vy, sides, spans, width, height, passes_below, passes_through}
use Rattle.defs.specs.Meaning.Turn.{outline_from}
use Rattle.laws.proofs.Turns.{at_x, at_y}
use Rattle.geom.proofs.Extent.{length_outline, after_below}

leb_shift : (a b c : ℕ) → leb (a + c) (b + c) ≡ leb a b
leb_shift a b c = go (leb a b) refl
  where
    go : (t : Bool) → leb a b ≡ t → leb (a + c) (b + c) ≡ t
    go true e = le-leb (a + c) (b + c) (omega (arith, leb-true a b e))
    go false e = lt-leb (a + c) (b + c) (omega (arith, leb-false a b e))

ltb_shift : (a b c : ℕ) → ltb (a + c) (b + c) ≡ ltb a b
ltb_shift a b c = go (ltb a b) refl
  where
    go : (t : Bool) → ltb a b ≡ t → ltb (a + c) (b + c) ≡ t
    go true e = lt-ltb (a + c) (b + c) (omega (arith, ltb-true a b e))
    go false e = le-ltb (a + c) (b + c) (omega (arith, ltb-false a b e))

eqb_shift : (a b c : ℕ) → eqb (a + c) (b + c) ≡ eqb a b
eqb_shift a b c = go (eqb a b) refl
  where
    go : (t : Bool) → eqb a b ≡ t → eqb (a + c) (b + c) ≡ t
    go true e = eq-eqb (a + c) (b + c) (omega (arith, eqb-true a b e))
    go false e = ne_eqb (a + c) (b + c) (λ q. eqb-false a b e (omega arith))

module _ (X Y : ℕ) where
  abbrev pub shift_edge : Edge → Edge
  shift_edge e = record { xl = e.xl + X; yl = e.yl + Y; xr = e.xr + X; yr = e.yr + Y }

  between_shift : (x y x' y' : ℕ) → edge_between (x + X) (y + Y) (x' + X) (y' + Y) ≡ shift_edge (edge_between x y x' y')
  between_shift x y x' y' =
      ap (λ (b : Bool). cond b (record { xl = x + X; yl = y + Y; xr = x' + X; yr = y' + Y }) (record { xl = x' + X; yl = y' + Y; xr = x + X; yr = y + Y }))
      (leb_shift x x' X) ∙ go (leb x x')
    where
      go : (b : Bool) →
          ◌≡◌ {A = Edge}
          (cond b (record { xl = x + X; yl = y + Y; xr = x' + X; yr = y' + Y }) (record { xl = x' + X; yl = y' + Y; xr = x + X; yr = y + Y }))
          (shift_edge (cond b (record { xl = x; yl = y; xr = x'; yr = y' }) (record { xl = x'; yl = y'; xr = x; yr = y })))
      go true = refl
      go false = refl

  module _ (v : List ℕ) where
    abbrev pub shifted : List ℕ
    shifted = outline_from (λ i. vx v i + X) (λ i. vy v i + Y) 0 (sides v)

    pub sides_shifted : sides shifted ≡ sides v
    sides_shifted = ap (λ (a : ℕ). a / 2) (length_outline _ _ 0 (sides v)) ∙ omega arith

    pub edge_shifted : (i : ℕ) → i < sides v → edge_at shifted i ≡ shift_edge (edge_at v i)
    unfolding edge_at
    edge_shifted i l =
        ap (λ (n : ℕ). edge_between (vx shifted i) (vy shifted i) (vx shifted (after n i)) (vy shifted (after n i))) sides_shifted ∙
        ap₂ (λ (x y : ℕ). edge_between x y (vx shifted a) (vy shifted a))
        (at_x (λ i. vx v i + X) (λ i. vy v i + Y) (sides v) i l) (at_y (λ i. vx v i + X) (λ i. vy v i + Y) (sides v) i l) ∙
        ap₂ (λ (x y : ℕ). edge_between (vx v i + X) (vy v i + Y) x y)
        (at_x (λ i. vx v i + X) (λ i. vy v i + Y) (sides v) a al) (at_y (λ i. vx v i + X) (λ i. vy v i + Y) (sides v) a al) ∙
        between_shift (vx v i) (vy v i) (vx v a) (vy v a)
      where
        a : ℕ
        a = after (sides v) i

        al : a < sides v
        al = after_below (sides v) i l

  -- the tests of an edge at a shifted point
  module _ (p q d : ℕ) (dpos : 1 ≤ d) where
    column_shift : (p + X * d) / d ≡ p / d + X
    column_shift = add-mul-div_right p X dpos

    spans_shift : (e : Edge) → spans (shift_edge e) ((p + X * d) / d) ≡ spans e (p / d)
    spans_shift e =
        ap (λ (k : ℕ). spans (shift_edge e) k) column_shift ∙
        ap₂ ◌&&◌ (leb_shift e.xl (p / d) X) (ltb_shift (p / d) e.xr X)

    height_shift : (e : Edge) → spans e (p / d) ≡ true →
        height (shift_edge e) (p + X * d) d ≡ height e p d + Y * (width e * d)
    unfolding height
    height_shift e s =
        let l = leb-true e.xl (p / d) (and_left _ _ s) in
        let r = ltb-true (p / d) e.xr (and_right (leb e.xl (p / d)) _ s) in
        ap₂ (λ (a b : ℕ). (e.yl + Y) * a + (e.yr + Y) * b)
        (right_same e.xr) (left_same e.xl) ∙
        go e.yl e.yr (e.xr * d - p) (p - e.xl * d) (width e * d)
        (sum e.xl e.xr
        (omega (arith, div-add-mod p d, mul-le-mul_right d l))
        (omega (arith, div-add-mod p d, mod-lt p dpos, mul-le-mul_right d r))
        (omega (arith, l, r)))
      where
        right_same : (x : ℕ) → (x + X) * d - (p + X * d) ≡ x * d - p
        right_same x = omega arith

        left_same : (x : ℕ) → p + X * d - (x + X) * d ≡ p - x * d
        left_same x = omega arith

        sum : (a b : ℕ) → a * d ≤ p → p ≤ b * d → a ≤ b → (b * d - p) + (p - a * d) ≡ (b - a) * d
        sum a b h k ab = inner (b - a) (omega arith)
          where
            inner : (w : ℕ) → a + w ≡ b → (b * d - p) + (p - a * d) ≡ w * d
            inner w e = omega (arith, ap (λ (n : ℕ). n * d) e)

        go : (yl yr A B w : ℕ) → A + B ≡ w → (yl + Y) * A + (yr + Y) * B ≡ (yl * A + yr * B) + Y * w
        go yl yr A B w e = omega (arith, ap (λ (n : ℕ). Y * n) e)

    product_shift : (e : Edge) → (q + Y * d) * width (shift_edge e) ≡ q * width e + Y * (width e * d)
    product_shift e = ap (λ (w : ℕ). (q + Y * d) * w) same ∙ go (width e)
      where
        same : width (shift_edge e) ≡ width e
        same = omega arith

        go : (w : ℕ) → (q + Y * d) * w ≡ q * w + Y * (w * d)
        go w = omega arith

    pub below_shift : (e : Edge) → passes_below (p + X * d) (q + Y * d) d (shift_edge e) ≡ passes_below p q d e
    unfolding passes_below
    below_shift e = ap (λ (b : Bool). b && ltb (height (shift_edge e) (p + X * d) d) ((q + Y * d) * width (shift_edge e))) (spans_shift e) ∙ go (spans e (p / d)) refl
      where
        go : (b : Bool) → spans e (p / d) ≡ b →
            (b && ltb (height (shift_edge e) (p + X * d) d) ((q + Y * d) * width (shift_edge e))) ≡ (b && ltb (height e p d) (q * width e))
        go false s = refl
        go true s = ap₂ ltb (height_shift e s) (product_shift e) ∙ ltb_shift (height e p d) (q * width e) (Y * (width e * d))

    pub through_shift : (e : Edge) → passes_through (p + X * d) (q + Y * d) d (shift_edge e) ≡ passes_through p q d e
    unfolding passes_through
    through_shift e = ap (λ (b : Bool). b && eqb (height (shift_edge e) (p + X * d) d) ((q + Y * d) * width (shift_edge e))) (spans_shift e) ∙ go (spans e (p / d)) refl
      where
        go : (b : Bool) → spans e (p / d) ≡ b →
            (b && eqb (height (shift_edge e) (p + X * d) d) ((q + Y * d) * width (shift_edge e))) ≡ (b && eqb (height e p d) (q * width e))
        go false s = refl
        go true s = ap₂ eqb (height_shift e s) (product_shift e) ∙ eqb_shift (height e p d) (q * width e) (Y * (width e * d))
