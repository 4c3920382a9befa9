-- The bits that are written are the only ones: no others without the sign stand for the same number. Assumes nothing.
use mathlib.Core.Path.{◌≡◌, refl, sym, ap, ◌∙◌, subst}
use mathlib.Core.Logic.{◌⊎◌, inl, inr, ⊎_elim}
use mathlib.Core.Bool.{cond}
use Prim.Native.Nat.{ℕ, zero, suc, ◌+◌, ◌-◌, ◌*◌, ◌^◌, ◌≤◌, ◌<◌}
use native.Mathlib.Omega.{arith}
use native.Mathlib.Decide.{dec_le, ℕ_discrete}
use native.Mathlib.Nat.{mul-pos, mul_comm, mul_assoc, mul-le-mul_right, mul-le-mul_left, mul-lt-mul_of_pos_right, mul-lt-mul_of_pos_left, eq_of_mul-eq-mul_right, lt_of_not-le, lt_of_le_of_lt, lt_of_lt_of_le, lt_irrefl}
use lib.Dec.{eqb, eqb-suc-zero, lit≤}
use lib.Pow.{pow-add, pow_pos, pow_mono}
use lib.Ieee.{size}
use borrow.Author.Tests.{ne_eqb}
use Rattle.pathdefs.specs.Meaning.Path.{sign_of, exponent_of, fraction_of, magnitude, Accepted}
use Rattle.pathdefs.specs.Computing.Paths.{written_bits}
use Rattle.pathlaws.proofs.Coordinates.{eight_magnitude, no_sign}
use Rattle.pathlaws.proofs.Written.{Digits, digits, few_digits}

-- exponent and fraction are all of the bits
fields_are : (n : ℕ) → sign_of n ≡ 0 → n ≡ exponent_of n * 2 ^ 23 + fraction_of n
fields_are n s = omega (arith, s)

fraction_below : (n : ℕ) → fraction_of n < 2 ^ 23
fraction_below n = omega arith

-- powers of two in order
power_lt : (i j : ℕ) → 2 ^ i < 2 ^ j → i < j
power_lt i j h = elim (dec_le j i) [ no n ↦ lt_of_not-le n | yes l ↦ absurd (lt_irrefl (2 ^ i) (lt_of_lt_of_le h (pow_mono l))) ]

-- 2^E × S = k × 2^147, S of 24 digits and k of z
module _ {k z : ℕ} (d : Digits k z) (h : z ≤ 14) (E S : ℕ) (low : 2 ^ 23 ≤ S) (top : S < 2 ^ 24) (e : 2 ^ E * S ≡ k * 2 ^ 147) where
  below : E + 23 < z + 147
  below =
      power_lt (E + 23) (z + 147)
      (lt_of_le_of_lt (subst (λ (n : ℕ). n ≤ 2 ^ E * S) (sym (pow-add 2 E 23)) (mul-le-mul_left (2 ^ E) low))
      (subst (λ (n : ℕ). n < 2 ^ (z + 147)) (sym e) (subst (λ (n : ℕ). k * 2 ^ 147 < n) (sym (pow-add 2 z 147)) (mul-lt-mul_of_pos_right d.below (pow_pos 147)))))

  above : z - 1 + 147 < E + 24
  above =
      power_lt (z - 1 + 147) (E + 24)
      (lt_of_le_of_lt (subst (λ (n : ℕ). n ≤ k * 2 ^ 147) (sym (pow-add 2 (z - 1) 147)) (mul-le-mul_right (2 ^ 147) d.least))
      (subst (λ (n : ℕ). n < 2 ^ (E + 24)) e (subst (λ (n : ℕ). 2 ^ E * S < n) (sym (pow-add 2 E 24)) (mul-lt-mul_of_pos_left top (pow_pos E)))))

  exponent : E ≡ z + 123
  exponent = omega (arith, below, above, d.some)

  significand : S ≡ k * 2 ^ (24 - z)
  significand =
      let i : 24 - z + (z + 123) ≡ 147 = omega (arith, h) in
      let f : S * 2 ^ (z + 123) ≡ k * 2 ^ (24 - z) * 2 ^ (z + 123) =
      mul_comm S (2 ^ (z + 123)) ∙ ap (λ (n : ℕ). 2 ^ n * S) (sym exponent) ∙ e ∙
      ap (λ (n : ℕ). k * n) (ap (λ (n : ℕ). 2 ^ n) (sym i) ∙ pow-add 2 (24 - z) (z + 123)) ∙ sym (mul_assoc k (2 ^ (24 - z)) (2 ^ (z + 123))) in
      eq_of_mul-eq-mul_right (2 ^ (z + 123)) (pow_pos (z + 123)) S (k * 2 ^ (24 - z)) f

eighth_part : (m k L C : ℕ) → C ≡ 8 * L → 8 * m ≡ k * C → m ≡ k * L
eighth_part m k L C c e = let f : 8 * m ≡ k * (8 * L) = e ∙ ap (λ (n : ℕ). k * n) c in omega (arith, f)

small_part : (T k L : ℕ) → 2 ^ 24 ≤ L → T < 2 ^ 23 → 2 * T ≡ suc k * L → ⊥
small_part T k L b l e = omega (arith, e, b, l)

none : (t L : ℕ) → 2 * t ≡ 0 * L → t ≡ 0
none t L e = omega (arith, e)

zero_part : (P T : ℕ) → 0 < P → P * (2 ^ 23 + T) ≡ 0 → ⊥
zero_part P T p e = omega (arith, e, mul-pos p p, p)

-- x is the exponent, t the fraction
by_fields : (n k x t : ℕ) → n ≡ x * 2 ^ 23 + t → t < 2 ^ 23 → k ≤ 16000 →
    cond (eqb x 0) (2 * t) (2 ^ x * (2 ^ 23 + t)) ≡ k * 2 ^ 147 → n ≡ written_bits k
unfolding written_bits
by_fields n zero zero t f b l e = let z : t ≡ 0 = none t (2 ^ 147) e in f ∙ rw z
by_fields n zero (suc x) t f b l e = absurd (zero_part (2 ^ suc x) t (pow_pos (suc x)) (rw (eqb-suc-zero x) at e))
by_fields n (suc k) zero t f b l e = absurd (small_part t k (2 ^ 147) (lit≤ tt) b e)
by_fields n (suc k) (suc x) t f b l e =
    let d = digits (suc k) (omega arith) in
    let h = few_digits (suc k) l in
    let g : 2 ^ suc x * (2 ^ 23 + t) ≡ suc k * 2 ^ 147 = rw (eqb-suc-zero x) at e in
    let ex : suc x ≡ size (suc k) + 123 = exponent d h (suc x) (2 ^ 23 + t) (omega arith) (omega (arith, b)) g in
    let sg : 2 ^ 23 + t ≡ suc k * 2 ^ (24 - size (suc k)) = significand d h (suc x) (2 ^ 23 + t) (omega arith) (omega (arith, b)) g in
    rw (ne_eqb (suc k) 0 (λ z. omega (arith, z))) (omega (arith, f, ex, sg))

by_magnitude : (n k : ℕ) → Accepted n k → magnitude n ≡ k * 2 ^ 147
by_magnitude n k a = eighth_part (magnitude n) k (2 ^ 147) (2 ^ 150) refl (eight_magnitude n k a)

pub without_sign : (n k : ℕ) → Accepted n k → sign_of n ≡ 0 → n ≡ written_bits k
unfolding magnitude
without_sign n k a s =
    by_fields n k (exponent_of n) (fraction_of n) (fields_are n s) (fraction_below n) a.at_most (by_magnitude n k a)

-- the only other bits are those of minus zero
nothing_in : (x t L : ℕ) → cond (eqb x 0) (2 * t) (2 ^ x * (2 ^ 23 + t)) ≡ 0 * L → (x ≡ 0) × (t ≡ 0)
nothing_in zero t L e = (refl, none t L e)
nothing_in (suc x) t L e =
    let f : 2 ^ suc x * (2 ^ 23 + t) ≡ 0 * L = rw (eqb-suc-zero x) at e in
    let z : 0 * L ≡ 0 = omega arith in
    absurd (zero_part (2 ^ suc x) t (pow_pos (suc x)) (f ∙ z))

with_sign : (n : ℕ) → n < 2 ^ 32 → ¬ (sign_of n ≡ 0) → Accepted n 0 → n ≡ 2 ^ 31
unfolding magnitude
with_sign n l s a =
    let z = nothing_in (exponent_of n) (fraction_of n) (2 ^ 147) (by_magnitude n 0 a) in
    omega (arith, l, s, z.0, z.1)

pub only_bits : (n k : ℕ) → n < 2 ^ 32 → Accepted n k → (n ≡ written_bits k) ⊎ ((n ≡ 2 ^ 31) × (k ≡ 0))
only_bits n k l a = elim (ℕ_discrete (sign_of n) 0) [
  | yes s ↦ inl (without_sign n k a s)
  | no s ↦
      let z : k ≡ 0 = ⊎_elim (λ e. absurd (s e)) (λ e. e) (no_sign n k a) in
      inr (with_sign n l s (subst (Accepted n) z a), z)
]
