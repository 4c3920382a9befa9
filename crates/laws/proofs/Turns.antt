-- The four turns in natural numbers: what is read of a turned outline, vertex by vertex.
-- Assumes nothing.
use mathlib.Core.Path.{◌≡◌, refl, sym, ap, subst, ◌∙◌}
use mathlib.Core.Bool.{Bool, true, false, cond, not}
use mathlib.Core.List.{List, ◌∷◌}
use Prim.Native.Nat.{ℕ, zero, suc, ◌+◌, ◌*◌, ◌-◌, ◌<◌, min, max}
use native.Mathlib.Omega.{arith}
use lib.Dec.{leb, T, leb→le, nleb→lt}
use lib.ListN.{get_or}
use Rattle.defs.specs.Meaning.Outline.{vx, vy, sides}
use Rattle.defs.specs.Meaning.Turn.{Whole, whole, negative, lesser, above, quarters, sent, least, outline_from, turned}
use Rattle.defs.specs.Computing.Vertices.{least_n, most_n, left_of, right_of, foot_of, head_of}

-- vertex i of an outline given by two functions
vertex_x : (f g : ℕ → ℕ) (k n i : ℕ) → i < n → get_or (outline_from f g k n) (2 * i) 0 ≡ f (k + i)
unfolding outline_from
vertex_x f g k zero i h = absurd (omega arith)
vertex_x f g k (suc n) zero h = ap f (omega arith)
vertex_x f g k (suc n) (suc i) h =
    let e : 2 * suc i ≡ suc (suc (2 * i)) = omega arith in
    ap (λ (a : ℕ). get_or (f k ∷ (g k ∷ outline_from f g (suc k) n)) a 0) e ∙
    vertex_x f g (suc k) n i (omega arith) ∙ ap f (omega arith)

vertex_y : (f g : ℕ → ℕ) (k n i : ℕ) → i < n → get_or (outline_from f g k n) (2 * i + 1) 0 ≡ g (k + i)
unfolding outline_from
vertex_y f g k zero i h = absurd (omega arith)
vertex_y f g k (suc n) zero h = ap g (omega arith)
vertex_y f g k (suc n) (suc i) h =
    let e : 2 * suc i + 1 ≡ suc (suc (2 * i + 1)) = omega arith in
    ap (λ (a : ℕ). get_or (f k ∷ (g k ∷ outline_from f g (suc k) n)) a 0) e ∙
    vertex_y f g (suc k) n i (omega arith) ∙ ap g (omega arith)

lesser_whole : (a b : ℕ) → lesser (whole a) (whole b) ≡ whole (min a b)
lesser_whole a b = go (leb (a + 0) (b + 0)) refl
  where
    go : (t : Bool) → leb (a + 0) (b + 0) ≡ t → cond t (whole a) (whole b) ≡ whole (min a b)
    go true e = ap whole (omega (arith, leb→le (a + 0) (b + 0) (subst T (sym e) tt)))
    go false e = ap whole (omega (arith, nleb→lt (a + 0) (b + 0) (subst (λ (t : Bool). T (not t)) (sym e) tt)))

lesser_negative : (a b : ℕ) → lesser (negative (whole a)) (negative (whole b)) ≡ negative (whole (max a b))
lesser_negative a b = go (leb (0 + b) (0 + a)) refl
  where
    go : (t : Bool) → leb (0 + b) (0 + a) ≡ t →
        cond t (negative (whole a)) (negative (whole b)) ≡ negative (whole (max a b))
    go true e = ap (λ (n : ℕ). negative (whole n)) (omega (arith, leb→le (0 + b) (0 + a) (subst T (sym e) tt)))
    go false e = ap (λ (n : ℕ). negative (whole n)) (omega (arith, nleb→lt (0 + b) (0 + a) (subst (λ (t : Bool). T (not t)) (sym e) tt)))

least_whole : (f : ℕ → ℕ) (n : ℕ) → least (λ i. whole (f i)) n ≡ whole (least_n f n)
unfolding least least_n
least_whole f zero = refl
least_whole f (suc n) = ap (λ (w : Whole). lesser w (whole (f (suc n)))) (least_whole f n) ∙ lesser_whole (least_n f n) (f (suc n))

least_negative : (f : ℕ → ℕ) (n : ℕ) → least (λ i. negative (whole (f i))) n ≡ negative (whole (most_n f n))
unfolding least most_n
least_negative f zero = refl
least_negative f (suc n) =
    ap (λ (w : Whole). lesser w (negative (whole (f (suc n))))) (least_negative f n) ∙ lesser_negative (most_n f n) (f (suc n))

-- a coordinate after the shift, as it stands and with its sign changed
shifted : (f : ℕ → ℕ) (n i : ℕ) → above (least (λ i. whole (f i)) n) (whole (f i)) ≡ f i - least_n f n
shifted f n i = ap (λ (w : Whole). above w (whole (f i))) (least_whole f n) ∙ omega arith

shifted_negative : (f : ℕ → ℕ) (n i : ℕ) →
    above (least (λ i. negative (whole (f i))) n) (negative (whole (f i))) ≡ most_n f n - f i
shifted_negative f n i = ap (λ (w : Whole). above w (negative (whole (f i)))) (least_negative f n) ∙ omega arith

pub at_x : (f g : ℕ → ℕ) (n i : ℕ) → i < n → get_or (outline_from f g 0 n) (2 * i) 0 ≡ f i
at_x f g n i h = vertex_x f g 0 n i h ∙ ap f (omega arith)

pub at_y : (f g : ℕ → ℕ) (n i : ℕ) → i < n → get_or (outline_from f g 0 n) (2 * i + 1) 0 ≡ g i
at_y f g n i h = vertex_y f g 0 n i h ∙ ap g (omega arith)

module _ (o : List ℕ) (i : ℕ) (h : i < sides o) where
  pub turn_0_x : vx (turned o 0) i ≡ vx o i - left_of o
  unfolding turned sent quarters
  turn_0_x = at_x _ _ (sides o) i h ∙ shifted (vx o) (sides o - 1) i

  pub turn_0_y : vy (turned o 0) i ≡ vy o i - foot_of o
  unfolding turned sent quarters
  turn_0_y = at_y _ _ (sides o) i h ∙ shifted (vy o) (sides o - 1) i

  pub turn_1_x : vx (turned o 1) i ≡ head_of o - vy o i
  unfolding turned sent quarters
  turn_1_x = at_x _ _ (sides o) i h ∙ shifted_negative (vy o) (sides o - 1) i

  pub turn_1_y : vy (turned o 1) i ≡ vx o i - left_of o
  unfolding turned sent quarters
  turn_1_y = at_y _ _ (sides o) i h ∙ shifted (vx o) (sides o - 1) i

  pub turn_2_x : vx (turned o 2) i ≡ right_of o - vx o i
  unfolding turned sent quarters
  turn_2_x = at_x _ _ (sides o) i h ∙ shifted_negative (vx o) (sides o - 1) i

  pub turn_2_y : vy (turned o 2) i ≡ head_of o - vy o i
  unfolding turned sent quarters
  turn_2_y = at_y _ _ (sides o) i h ∙ shifted_negative (vy o) (sides o - 1) i

  pub turn_3_x : vx (turned o 3) i ≡ vy o i - foot_of o
  unfolding turned sent quarters
  turn_3_x = at_x _ _ (sides o) i h ∙ shifted (vy o) (sides o - 1) i

  pub turn_3_y : vy (turned o 3) i ≡ right_of o - vx o i
  unfolding turned sent quarters
  turn_3_y = at_y _ _ (sides o) i h ∙ shifted_negative (vx o) (sides o - 1) i
