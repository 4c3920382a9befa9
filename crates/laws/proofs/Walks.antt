-- Chains walked one record at a time, over any next: `chain_by` lists the records, `ends_by` tells whether zero is reached.
-- Assumes nothing.
use mathlib.Core.Path.{◌≡◌, refl, ap}
use mathlib.Core.Bool.{Bool, true, cond}
use mathlib.Core.List.{[], ◌∷◌}
use Prim.Native.Nat.{ℕ, zero, suc, ◌≤◌, ◌<◌}
use native.Mathlib.Omega.{arith}
use lib.ListN.{length}
use borrow.Author.Tests.{eqb-true}
use Rattle.defs.specs.Computing.Test.{chain_by, ends_by}
use Rattle.laws.proofs.Tests.{Decides, leb_decides, and_decides, pos_not_zero}

module _ (next : ℕ → ℕ) where
  pub chain_zero : (n : ℕ) → chain_by next n 0 ≡ []
  unfolding chain_by
  chain_zero zero = refl
  chain_zero (suc n) = refl

  pub chain_step : (n r : ℕ) → 0 < r → chain_by next (suc n) r ≡ r ∷ chain_by next n (next r)
  unfolding chain_by
  chain_step n r h = ap (λ (b : Bool). cond b [] (r ∷ chain_by next n (next r))) (pos_not_zero r h)

  pub chain_few : (n r : ℕ) → length (chain_by next n r) ≤ n
  unfolding chain_by
  chain_few zero r = omega arith
  chain_few (suc n) zero = omega arith
  chain_few (suc n) (suc r) =
      let few = chain_few n (next (suc r)) in
      omega (arith, ap length (chain_step n (suc r) (omega arith)))

  module _ (most : ℕ) where
    pub zero_ends_by : (n : ℕ) → ends_by next most n 0 ≡ true
    unfolding ends_by
    zero_ends_by zero = refl
    zero_ends_by (suc n) = refl

    pub ends_step : (n r : ℕ) → 0 < r →
        Decides (ends_by next most (suc n) r) ((r ≤ most) × (ends_by next most n (next r) ≡ true))
    unfolding ends_by
    ends_step n r h = rw (pos_not_zero r h) (and_decides (leb_decides r most) (λ e. e, λ e. e))

    -- without room only zero ends
    pub no_room : (r : ℕ) → 0 < r → ends_by next most 0 r ≡ true → ⊥
    unfolding ends_by
    no_room r h e = omega (arith, eqb-true r 0 e)
