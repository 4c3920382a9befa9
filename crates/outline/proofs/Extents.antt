-- The extent of a turned outline is the difference of its bounds: right less left and head less foot, swapped by an odd turn.
-- A turn sends each coordinate to its distance from a bound, and the greatest distance is that of the bound opposite.
-- Assumes nothing.
use mathlib.Core.Path.{◌≡◌, refl, ap, ap₂, sym, ◌∙◌}
use mathlib.Core.List.{List}
use Prim.Native.Nat.{ℕ, zero, suc, ◌-◌, ◌%◌, ◌≤◌, ◌<◌, max}
use native.Mathlib.Omega.{arith}
use Rattle.defs.specs.Meaning.Outline.{vx, vy, sides}
use Rattle.defs.specs.Meaning.Turn.{greatest, extent_x, extent_y}
use Rattle.defs.specs.Computing.Vertices.{least_n, most_n}
use Rattle.laws.proofs.Extremes.{least_at, most_at}
use Rattle.laws.proofs.Turns.{turn_0_x, turn_0_y, turn_1_x, turn_1_y, turn_2_x, turn_2_y, turn_3_x, turn_3_y}
use Rattle.outline.specs.Vertex.{BoundsOf}
use Rattle.outline.specs.declared.Bounds.{Bounds}

greatest_same : (f g : ℕ → ℕ) (n : ℕ) → ((i : ℕ) → i < n → f i ≡ g i) → greatest f n ≡ greatest g n
unfolding greatest
greatest_same f g zero h = refl
greatest_same f g (suc n) h = ap₂ max (greatest_same f g n (λ i l. h i (omega arith))) (h n (omega arith))

-- the greatest distance to a bound below, and to a bound above
greatest_above : (f : ℕ → ℕ) (m n : ℕ) → greatest (λ i. f i - m) (suc n) ≡ most_n f n - m
unfolding greatest most_n
greatest_above f m zero = omega arith
greatest_above f m (suc n) = ap (λ (z : ℕ). max z (f (suc n) - m)) (greatest_above f m n) ∙ omega arith

greatest_below : (f : ℕ → ℕ) (m n : ℕ) → greatest (λ i. m - f i) (suc n) ≡ m - least_n f n
unfolding greatest least_n
greatest_below f m zero = omega arith
greatest_below f m (suc n) = ap (λ (z : ℕ). max z (m - f (suc n))) (greatest_below f m n) ∙ omega arith

module _ {o : List ℕ} {b : Bounds} (some : 1 ≤ sides o) (k : BoundsOf o b) where
  pub left_right : b.left ≤ b.right
  left_right =
      omega (arith, k.left, k.right, least_at (vx o) (sides o - 1) 0 (omega arith), most_at (vx o) (sides o - 1) 0 (omega arith))

  pub foot_head : b.foot ≤ b.head
  foot_head =
      omega (arith, k.foot, k.head, least_at (vy o) (sides o - 1) 0 (omega arith), most_at (vy o) (sides o - 1) 0 (omega arith))

  -- by a coordinate's distances to the bound below it, and to the bound above it
  from_below : (g c : ℕ → ℕ) {a z : ℕ} → a ≡ least_n c (sides o - 1) → z ≡ most_n c (sides o - 1) →
      ((i : ℕ) → i < sides o → g i ≡ c i - least_n c (sides o - 1)) → z - a ≡ greatest g (sides o)
  from_below g c p q e =
      let s : suc (sides o - 1) ≡ sides o = omega arith in
      ap₂ (λ (z a : ℕ). z - a) q p ∙ sym (greatest_above c (least_n c (sides o - 1)) (sides o - 1)) ∙
      ap (greatest (λ i. c i - least_n c (sides o - 1))) s ∙ sym (greatest_same g _ (sides o) e)

  from_above : (g c : ℕ → ℕ) {a z : ℕ} → a ≡ least_n c (sides o - 1) → z ≡ most_n c (sides o - 1) →
      ((i : ℕ) → i < sides o → g i ≡ most_n c (sides o - 1) - c i) → z - a ≡ greatest g (sides o)
  from_above g c p q e =
      let s : suc (sides o - 1) ≡ sides o = omega arith in
      ap₂ (λ (z a : ℕ). z - a) q p ∙ sym (greatest_below c (most_n c (sides o - 1)) (sides o - 1)) ∙
      ap (greatest (λ i. most_n c (sides o - 1) - c i)) s ∙ sym (greatest_same g _ (sides o) e)

  abbrev Upright : ℕ → Type 0
  Upright t = (b.right - b.left ≡ extent_x o t) × (b.head - b.foot ≡ extent_y o t)

  abbrev Sideways : ℕ → Type 0
  Sideways t = (b.head - b.foot ≡ extent_x o t) × (b.right - b.left ≡ extent_y o t)

  pub upright : (t : ℕ) → t ≤ 3 → t % 2 ≡ 0 → Upright t
  unfolding extent_x extent_y
  upright zero m e = (from_below _ (vx o) k.left k.right (turn_0_x o), from_below _ (vy o) k.foot k.head (turn_0_y o))
  upright (suc zero) m e = absurd (omega arith)
  upright (suc (suc zero)) m e = (from_above _ (vx o) k.left k.right (turn_2_x o), from_above _ (vy o) k.foot k.head (turn_2_y o))
  upright (suc (suc (suc t))) m e = absurd (omega arith)

  pub sideways : (t : ℕ) → t ≤ 3 → ¬ (t % 2 ≡ 0) → Sideways t
  unfolding extent_x extent_y
  sideways zero m e = absurd (e refl)
  sideways (suc zero) m e = (from_above _ (vy o) k.foot k.head (turn_1_x o), from_below _ (vx o) k.left k.right (turn_1_y o))
  sideways (suc (suc zero)) m e = absurd (e refl)
  sideways (suc (suc (suc zero))) m e = (from_below _ (vy o) k.foot k.head (turn_3_x o), from_above _ (vx o) k.left k.right (turn_3_y o))
  sideways (suc (suc (suc (suc t)))) m e = absurd (omega arith)
