-- The first "no" of a list, one element at a time.
-- Assumes nothing.
use mathlib.Core.Path.{◌≡◌, refl}
use mathlib.Core.List.{List, [], ◌∷◌}
use Prim.Native.Nat.{ℕ, ◌+◌}
use borrow.Author.Tests.{ne_eqb, eq-eqb}
use Rattle.std.specs.Prelude.{Some, None}
use Rattle.defs.specs.Computing.Calls.{refusal}
use Rattle.defs.specs.Computing.Sheets.{first_no}

module _ {A : Type 0} (f : A → ℕ) (k : ℕ) where
  pub no_end : first_no f k [] ≡ None
  unfolding first_no
  no_end = refl

  pub no_on : (x : A) (xs : List A) → f x ≡ 0 → first_no f k (x ∷ xs) ≡ first_no f (k + 1) xs
  unfolding first_no
  no_on x xs e = rw (eq-eqb (f x) 0 e)

  pub no_here : (x : A) (xs : List A) → (f x ≡ 0 → ⊥) → first_no f k (x ∷ xs) ≡ Some (refusal (f x) k)
  unfolding first_no
  no_here x xs e = rw (ne_eqb (f x) 0 e)
