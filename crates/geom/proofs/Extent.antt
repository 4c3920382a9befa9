-- Covered cells lie within the extent of the outline.
-- Assumes nothing.
use mathlib.Core.Path.{◌≡◌, refl, ap, ◌∙◌}
use mathlib.Core.Bool.{Bool, true, false, cond}
use mathlib.Core.List.{List}
use mathlib.Core.Logic.{⊎_elim}
use Prim.Native.Nat.{ℕ, zero, suc, ◌+◌, ◌*◌, ◌-◌, ◌/◌, ◌≤◌, ◌<◌, max}
use native.Mathlib.Omega.{arith}
use native.Mathlib.Nat.{mul-le-mul_right, lt_of_mul-lt-mul_right, div-add-mod, mod-lt}
use lib.Dec.{ltb, leb, eqb}
use lib.ListN.{length}
use borrow.Author.Tests.{ltb-true, leb-true, eqb-false}
use Rattle.laws.proofs.Tests.{and_left, and_right}
use Rattle.defs.specs.Meaning.Outline.{Edge, edge_at, edge_between, after, vx, vy, sides, spans, width, height, KeepsOrder}
use Rattle.defs.specs.Meaning.Cell.{Covered}
use Rattle.defs.specs.Meaning.Turn.{greatest, outline_from, turned}
use Rattle.defs.specs.Meaning.Placing.{columns_for}
use Rattle.geom.proofs.Strip.{lt_or_le}
use Rattle.geom.proofs.Column.{and_last}
use Rattle.geom.proofs.Cells.{narrow}
use Rattle.geom.proofs.Cover.{W, meet}

pub record Bounded (w h : ℕ) (e : Edge) : Type 0 where
  pub right : e.xr ≤ w
  pub from_left : e.yl ≤ h
  pub to_right : e.yr ≤ h

between_bounded : (w h x y x' y' : ℕ) → x ≤ w → y ≤ h → x' ≤ w → y' ≤ h → Bounded w h (edge_between x y x' y')
between_bounded w h x y x' y' a b c d = go (leb x x')
  where
    go : (t : Bool) → Bounded w h (cond t (record { xl = x; yl = y; xr = x'; yr = y' }) (record { xl = x'; yl = y'; xr = x; yr = y }))
    go true = record { right = c; from_left = b; to_right = d }
    go false = record { right = a; from_left = d; to_right = b }

pub after_below : (n i : ℕ) → i < n → after n i < n
after_below n i h = go (eqb (i + 1) n) refl
  where
    go : (b : Bool) → eqb (i + 1) n ≡ b → cond b 0 (i + 1) < n
    go true e = omega arith
    go false e = omega (arith, eqb-false (i + 1) n e)

pub at_most : (f : ℕ → ℕ) (n i : ℕ) → i < n → f i ≤ greatest f n
unfolding greatest
at_most f zero i h = absurd (omega arith)
at_most f (suc n) i h =
    and_last n (λ i. f i ≤ max (greatest f n) (f n)) (λ i l. let z = at_most f n i l in omega arith) (omega arith) i h

pub edge_bounded : (v : List ℕ) (i : ℕ) → i < sides v → Bounded (greatest (vx v) (sides v)) (greatest (vy v) (sides v)) (edge_at v i)
unfolding edge_at
edge_bounded v i l =
    between_bounded _ _ _ _ _ _ (at_most (vx v) (sides v) i l) (at_most (vy v) (sides v) i l)
    (at_most (vx v) (sides v) (after (sides v) i) (after_below (sides v) i l))
    (at_most (vy v) (sides v) (after (sides v) i) (after_below (sides v) i l))

-- a mean of two heights is at most the greater
mean_at_most : (h yl yr a b w : ℕ) → yl ≤ h → yr ≤ h → a + b ≡ w → yl * a + yr * b ≤ h * w
mean_at_most h yl yr a b w l r e = omega (arith, mul-le-mul_right a l, mul-le-mul_right b r, ap (λ (n : ℕ). h * n) e)

pub height_at_most : (w h k : ℕ) (e : Edge) → Bounded w h e → spans e k ≡ true → (height e k 1 ≤ h * width e) × (height e (k + 1) 1 ≤ h * width e)
unfolding height
height_at_most w h k e b s =
    let l = leb-true e.xl k (and_left _ _ s) in
    let r = ltb-true k e.xr (and_right (leb e.xl k) _ s) in (
      mean_at_most h e.yl e.yr (e.xr * 1 - k) (k - e.xl * 1) (width e) b.from_left b.to_right (omega arith),
      mean_at_most h e.yl e.yr (e.xr * 1 - (k + 1)) (k + 1 - e.xl * 1) (width e) b.from_left b.to_right (omega arith),
    )

pub record Within (w h R i j : ℕ) : Type 0 where
  pub column : i * R < w
  pub row : j < h

pub covered_within : (v : List ℕ) → KeepsOrder v → 0 < sides v → (R i j : ℕ) → Covered v R i j →
    Within (greatest (vx v) (sides v)) (greatest (vy v) (sides v)) R i j
unfolding KeepsOrder
covered_within v keeps some R i j c =
    let u = narrow c in
    let t = meet v u.k (keeps u.k) some j u.there in
    let la = ltb-true t.a (sides v) (and_left (ltb t.a (sides v)) _ t.a_edge) in
    let lb = ltb-true t.b (sides v) (and_left (ltb t.b (sides v)) _ t.b_edge) in
    let sa = and_right (ltb t.a (sides v)) _ t.a_edge in
    let sb = and_right (ltb t.b (sides v)) _ t.b_edge in
    let ba = edge_bounded v t.a la in
    let hb = height_at_most _ _ u.k (edge_at v t.b) (edge_bounded v t.b lb) sb in
    record {
      column =
          omega (arith, u.from, ba.right, ltb-true u.k (edge_at v t.a).xr (and_right (leb (edge_at v t.a).xl u.k) _ sa));
      row = ⊎_elim (λ h. lt_of_mul-lt-mul_right (W v u.k t.b) (omega (arith, hb.0))) (λ h. lt_of_mul-lt-mul_right (W v u.k t.b) (omega (arith, hb.1))) t.high;
    }

pub rounded_up : (w R i : ℕ) → 1 ≤ R → i * R < w → i < columns_for w R
rounded_up w R i Rpos h =
    lt_of_mul-lt-mul_right R (omega (arith, div-add-mod (w + (R - 1)) R, mod-lt (w + (R - 1)) Rpos))

-- a column that begins at w or later is past the last one
pub rounded_end : (w R i : ℕ) → 1 ≤ R → w ≤ i * R → columns_for w R ≤ i
rounded_end w R i Rpos h =
    ⊎_elim (λ l. absurd (omega (arith, mul-le-mul_right R l, div-add-mod (w + (R - 1)) R))) (λ l. l)
    (lt_or_le i (columns_for w R))

pub length_outline : (f g : ℕ → ℕ) (k n : ℕ) → length (outline_from f g k n) ≡ 2 * n
unfolding outline_from
length_outline f g k zero = refl
length_outline f g k (suc n) = ap (λ (a : ℕ). suc (suc a)) (length_outline f g (suc k) n) ∙ omega arith

pub sides_turned : (o : List ℕ) (t : ℕ) → sides (turned o t) ≡ sides o
unfolding turned
sides_turned o t = ap (λ (a : ℕ). a / 2) (length_outline _ _ 0 (sides o)) ∙ omega arith
