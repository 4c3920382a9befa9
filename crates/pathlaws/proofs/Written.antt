-- The bits that are written for k units are those of k / 8, with the sign 0; and any bits are back from their four bytes.
-- Assumes nothing.
use mathlib.Core.Path.{◌≡◌, refl, sym, ap, ◌∙◌, subst}
use mathlib.Core.Logic.{inl}
use mathlib.Core.Bool.{false}
use Prim.Native.Nat.{ℕ, zero, suc, ◌+◌, ◌-◌, ◌*◌, ◌/◌, ◌%◌, ◌^◌, ◌≤◌, ◌<◌}
use native.Mathlib.Omega.{arith}
use native.Mathlib.Nat.{mul-le-mul_right, mul-lt-mul_of_pos_right}
use lib.Dec.{eqb, lit≤, lit<}
use lib.Pow.{pow-add, pow_pos, high, low}
use lib.Ieee.{size}
use lib.Ieee.Digits.{size-lt, size_reaches, size-le}
use borrow.Author.Tests.{ne_eqb}
use Rattle.pathdefs.specs.Meaning.Path.{bits_of, sign_of, exponent_of, fraction_of, magnitude, Accepted}
use Rattle.pathdefs.specs.Computing.Paths.{written_bits}
use Rattle.pathlaws.proofs.Coordinates.{accepted_by}

-- "low byte first"
pub four_back : (n : ℕ) → bits_of (n % 256) (n / 256 % 256) (n / 65536 % 256) (n / 16777216) ≡ n
four_back n = omega arith

-- k has z digits, the leading one included
pub record Digits (k z : ℕ) : Type 0 where
  pub some : 0 < z
  pub least : 2 ^ (z - 1) ≤ k
  pub below : k < 2 ^ z

pub digits : (k : ℕ) → 0 < k → Digits k (size k)
digits k p = go (size k) (size-lt k) (λ j. size_reaches k j)
  where
    go : (z : ℕ) → k < 2 ^ z → ((j : ℕ) → j < z → 2 ^ j ≤ k) → Digits k z
    go zero l r = absurd (omega (arith, l, p))
    go (suc z) l r = record { some = omega arith; least = r (suc z - 1) (omega arith); below = l }

-- 16,000 has 14
pub few_digits : (k : ℕ) → k ≤ 16000 → size k ≤ 14
few_digits k h = size-le k 14 (omega arith)

-- the digits of k, with zeros to 24 of them: the leading one is 2^23
module _ {k z : ℕ} (d : Digits k z) (h : z ≤ 14) where
  whole : 2 ^ z * 2 ^ (24 - z) ≡ 2 ^ 24
  whole = let e : z + (24 - z) ≡ 24 = omega arith in sym (pow-add 2 z (24 - z)) ∙ ap (λ (n : ℕ). 2 ^ n) e

  half : 2 ^ (z - 1) * 2 ^ (24 - z) ≡ 2 ^ 23
  half = let e : z - 1 + (24 - z) ≡ 23 = omega (arith, d.some) in sym (pow-add 2 (z - 1) (24 - z)) ∙ ap (λ (n : ℕ). 2 ^ n) e

  pub significand_at_least : 2 ^ 23 ≤ k * 2 ^ (24 - z)
  significand_at_least = subst (λ (n : ℕ). n ≤ k * 2 ^ (24 - z)) half (mul-le-mul_right (2 ^ (24 - z)) d.least)

  pub significand_below : k * 2 ^ (24 - z) < 2 ^ 24
  significand_below = subst (λ (n : ℕ). k * 2 ^ (24 - z) < n) whole (mul-lt-mul_of_pos_right d.below (pow_pos (24 - z)))

  -- its exponent and its fraction
  abbrev bits : ℕ
  bits = (z + 122) * 2 ^ 23 + k * 2 ^ (24 - z)

  fraction : k * 2 ^ (24 - z) - 2 ^ 23 < 2 ^ 23
  fraction = omega (arith, significand_below, significand_at_least)

  split : bits ≡ (z + 123) * 2 ^ 23 + (k * 2 ^ (24 - z) - 2 ^ 23)
  split = omega (arith, significand_at_least)

  exponent_is : exponent_of bits ≡ z + 123
  exponent_is = rw (split, high (z + 123) 23 fraction) (omega arith)

  fraction_is : fraction_of bits ≡ k * 2 ^ (24 - z) - 2 ^ 23
  fraction_is = rw (split, low (z + 123) 23 fraction)

  sign_is : sign_of bits ≡ 0
  sign_is = omega (arith, significand_below)

  -- 2^E × (2^23 + T) is k × 2^147; L is 2^147
  magnitude_is : magnitude bits ≡ k * 2 ^ 147
  unfolding magnitude
  magnitude_is =
      let e : z + 123 + (24 - z) ≡ 147 = omega (arith, h) in
      let L : 2 ^ (z + 123) * 2 ^ (24 - z) ≡ 2 ^ 147 = sym (pow-add 2 (z + 123) (24 - z)) ∙ ap (λ (n : ℕ). 2 ^ n) e in
      let t : 2 ^ 23 + (k * 2 ^ (24 - z) - 2 ^ 23) ≡ k * 2 ^ (24 - z) = omega (arith, significand_at_least) in
      let n : eqb (z + 123) 0 ≡ false = ne_eqb (z + 123) 0 (λ f. omega (arith, f)) in
      rw (exponent_is, fraction_is, n, t) (times (2 ^ (z + 123)) k (2 ^ (24 - z)) ∙ ap (λ (m : ℕ). k * m) L)
    where
      times : (a b c : ℕ) → a * (b * c) ≡ b * (a * c)
      times a b c = omega arith

  is_accepted : k ≤ 16000 → Accepted bits k
  is_accepted l =
      accepted_by bits k
      (subst (λ (n : ℕ). n < 255) (sym exponent_is) (omega (arith, h)))
      (ap (λ (n : ℕ). 8 * n) magnitude_is ∙ eightfold k (2 ^ 147) (2 ^ 150) refl)
      (inl sign_is) l
    where
      eightfold : (k L C : ℕ) → C ≡ 8 * L → 8 * (k * L) ≡ k * C
      eightfold k L C e = rw e (omega arith)

zero_accepted : Accepted 0 0
unfolding magnitude
zero_accepted = record { number = lit< tt; eight_times = refl; at_most = lit≤ tt }

-- k up to 16,000: the bits that are written for it are accepted, as k, and have the sign 0
pub written_accepted : (k : ℕ) → k ≤ 16000 → Accepted (written_bits k) k
unfolding written_bits
written_accepted zero h = zero_accepted
written_accepted (suc k) h = rw (ne_eqb (suc k) 0 (λ f. omega (arith, f))) (is_accepted (digits (suc k) (omega arith)) (few_digits (suc k) h) h)

pub written_sign : (k : ℕ) → k ≤ 16000 → sign_of (written_bits k) ≡ 0
unfolding written_bits
written_sign zero h = refl
written_sign (suc k) h = rw (ne_eqb (suc k) 0 (λ f. omega (arith, f))) (sign_is (digits (suc k) (omega arith)) (few_digits (suc k) h))
