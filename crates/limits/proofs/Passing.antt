-- The first "no" of 3, 16, 17 and 21, as an answer and as a number. Assumes nothing.
use mathlib.Core.Path.{◌≡◌, refl, sym, ◌∙◌, ap}
use mathlib.Core.Bool.{true, false, false≢true}
use Prim.Native.Nat.{ℕ, zero, suc, ◌<◌}
use native.Mathlib.Omega.{arith}
use borrow.Author.Tests.{ne_eqb}
use Rattle.std.specs.Prelude.{Result, Ok, Err, is_err, ◌≢◌}
use Rattle.defs.specs.declared.Refusal.{Refusal}
use Rattle.defs.specs.Computing.Words.{gapb, limits_no, figures_no}
use Rattle.defs.specs.Computing.Calls.{refusal, passing}

pub none_no : (n : ℕ) → Ok tt ≡ passing n → n ≡ 0
none_no zero e = refl
none_no (suc k) e = let z : ◌≡◌ {A = ℕ} 0 1 = cc in omega arith

pub some_no : (n : ℕ) {r : Refusal} → Err r ≡ passing n → (0 < n) × (◌≡◌ {A = Result Unit Refusal} (Err r) (Err (refusal n 0)))
some_no zero e = absurd (let z : ◌≡◌ {A = ℕ} 0 1 = cc in omega arith)
some_no (suc k) e = (omega arith, e)

pub same_refusal : {q r : Refusal} → ◌≡◌ {A = Result Unit Refusal} (Err q) (Err r) → q ≡ r
same_refusal e = cc

pub fails : (n : ℕ) → is_err (passing n) ≡ true → n ≢ 0
fails zero e = absurd (false≢true e)
fails (suc k) e = λ z. omega (arith, z)

pub passes : (n : ℕ) → is_err (passing n) ≡ false → n ≡ 0
passes zero e = refl
passes (suc k) e = absurd (false≢true (sym e))

module _ (W R N g : ℕ) where
  pub first_three : {r : Refusal} → Err r ≡ passing (limits_no W R N) → Err r ≡ passing (figures_no W R N g)
  unfolding figures_no
  first_three e = let s = some_no (limits_no W R N) e in rw (ne_eqb (limits_no W R N) 0 (omega (arith, s.0))) e

  pub no_21 : Ok tt ≡ passing (limits_no W R N) → gapb g ≡ false → figures_no W R N g ≡ 21
  unfolding figures_no
  no_21 e f = rw (none_no (limits_no W R N) e, f) refl

  pub none_of_four : Ok tt ≡ passing (limits_no W R N) → gapb g ≡ true → figures_no W R N g ≡ 0
  unfolding figures_no
  none_of_four e f = rw (none_no (limits_no W R N) e, f) refl
