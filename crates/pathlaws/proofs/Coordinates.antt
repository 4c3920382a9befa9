-- The test of a coordinate decides whether it is accepted, and the units are the whole number that eight times it is.
-- Assumes nothing.
use mathlib.Core.Path.{◌≡◌, refl, sym, ap, ◌∙◌, subst}
use mathlib.Core.Logic.{◌⊎◌, inl, inr, ⊎_elim}
use mathlib.Core.Bool.{true, cond}
use Prim.Native.Nat.{ℕ, zero, suc, ◌*◌, ◌/◌, ◌%◌, ◌^◌, ◌+◌, ◌≤◌, ◌<◌}
use native.Mathlib.Omega.{arith}
use native.Mathlib.Nat.{div-add-mod, mul-div_cancel, mul-mod_left}
use lib.Dec.{eqb, eqb-suc-zero}
use lib.Pow.{pow_pos}
use Rattle.defs.specs.Meaning.Limits.{most_coordinate}
use Rattle.defs.specs.Meaning.Turn.{Whole, whole, negative}
use Rattle.laws.proofs.Tests.{Decides, leb_decides, ltb_decides, eqb_decides, and_decides, or_decides, decides_by}
use Rattle.pathdefs.specs.Meaning.Path.{sign_of, exponent_of, magnitude, Accepted}
use Rattle.pathdefs.specs.Computing.Paths.{units_of, acceptedb}

-- with 2^150 as a variable
quotient : (a k C : ℕ) → 0 < C → a ≡ k * C → (a / C ≡ k) × (a % C ≡ 0)
quotient a k C p e = (ap (λ (x : ℕ). x / C) e ∙ mul-div_cancel k p, ap (λ (x : ℕ). x % C) e ∙ mul-mod_left k C)

whole_times : (a C : ℕ) → a % C ≡ 0 → a ≡ a / C * C
whole_times a C h = omega (arith, div-add-mod a C, h)

none_of : (m k C : ℕ) → 8 * m ≡ k * C → k ≡ 0 → m ≡ 0
none_of m k C e z = let f : 8 * m ≡ 0 * C = e ∙ ap (λ (x : ℕ). x * C) z in omega (arith, f)

none_back : (m k C : ℕ) → 0 < C → 8 * m ≡ k * C → m ≡ 0 → k ≡ 0
none_back m zero C p e z = refl
none_back m (suc k) C p e z = absurd (omega (arith, e, z, p))

-- a number of sign s and magnitude m
abbrev signed : ℕ → ℕ → Whole
signed s m = cond (eqb s 0) (whole m) (negative (whole m))

-- eight times it is k: so is eight times its magnitude, and it has no sign or is 0
apart : (s m k C : ℕ) → 0 < C → 8 * (signed s m).plus ≡ 8 * (signed s m).minus + k * C → (8 * m ≡ k * C) × ((s ≡ 0) ⊎ (k ≡ 0))
apart zero m k C p e = (omega (arith, e), inl refl)
apart (suc s) m zero C p e =
    let f : 8 * 0 ≡ 8 * m + 0 * C = rw (eqb-suc-zero s) at e in
    (omega (arith, f), inr refl)
apart (suc s) m (suc k) C p e =
    let f : 8 * 0 ≡ 8 * m + suc k * C = rw (eqb-suc-zero s) at e in
    absurd (omega (arith, f, p))

together : (s m k C : ℕ) → 8 * m ≡ k * C → (s ≡ 0) ⊎ (k ≡ 0) → 8 * (signed s m).plus ≡ 8 * (signed s m).minus + k * C
together zero m k C e h = omega (arith, e)
together (suc s) m k C e h =
    let z : k ≡ 0 = ⊎_elim (λ f. absurd (omega (arith, f))) (λ f. f) h in
    let n : m ≡ 0 = none_of m k C e z in
    rw (eqb-suc-zero s, z) (omega (arith, n))

module _ (n k : ℕ) (a : Accepted n k) where
  parts : (8 * magnitude n ≡ k * 2 ^ 150) × ((sign_of n ≡ 0) ⊎ (k ≡ 0))
  parts = apart (sign_of n) (magnitude n) k (2 ^ 150) (pow_pos 150) a.eight_times

  pub eight_magnitude : 8 * magnitude n ≡ k * 2 ^ 150
  eight_magnitude = parts.0

  pub no_sign : (sign_of n ≡ 0) ⊎ (k ≡ 0)
  no_sign = parts.1

  pub units_is : units_of n ≡ k
  unfolding units_of
  units_is = (quotient (8 * magnitude n) k (2 ^ 150) (pow_pos 150) eight_magnitude).0

pub accepted_by : (n k : ℕ) → exponent_of n < 255 → 8 * magnitude n ≡ k * 2 ^ 150 → (sign_of n ≡ 0) ⊎ (k ≡ 0) → k ≤ most_coordinate → Accepted n k
accepted_by n k l e s m =
    record { number = l; eight_times = together (sign_of n) (magnitude n) k (2 ^ 150) e s; at_most = m }

-- no coordinate stands for two numbers
pub one_number : (n k l : ℕ) → Accepted n k → Accepted n l → k ≡ l
one_number n k l a b = sym (units_is n k a) ∙ units_is n l b

pub coordinate_decides : (n : ℕ) → Decides (acceptedb n) (Accepted n (units_of n))
unfolding units_of acceptedb
coordinate_decides n =
    decides_by
    (λ h.
    let e = whole_times (8 * magnitude n) (2 ^ 150) h.1.0.0 in
    accepted_by n _ h.0 e (⊎_elim inl (λ z. inr (none_back (magnitude n) _ (2 ^ 150) (pow_pos 150) e z)) h.1.0.1) h.1.1)
    (λ a.
    let e = eight_magnitude n _ a in (
      a.number,
      (
        (
          (quotient (8 * magnitude n) _ (2 ^ 150) (pow_pos 150) e).1,
          ⊎_elim inl (λ z. inr (none_of (magnitude n) _ (2 ^ 150) e z)) (no_sign n _ a),
        ),
        a.at_most,
      ),
    ))
    (and_decides (ltb_decides _ _)
    (and_decides (and_decides (eqb_decides _ _) (or_decides (eqb_decides _ _) (eqb_decides _ _))) (leb_decides _ _)))

-- "A coordinate is accepted": for some number
pub accepted_is : (n k : ℕ) → Accepted n k → acceptedb n ≡ true
accepted_is n k a = (coordinate_decides n).1 (subst (Accepted n) (sym (units_is n k a)) a)
