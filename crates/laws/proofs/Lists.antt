-- Lists by index: `list_from`, and what stands past the end of a list.
-- Assumes nothing.
use mathlib.Core.Path.{◌≡◌, refl, sym, ap, ◌∙◌}
use Prim.Native.Nat.{ℕ, zero, suc, ◌+◌, ◌≤◌, ◌<◌}
use native.Mathlib.Omega.{arith}
use native.Mathlib.Nat.{add-zero}
use lib.ListN.{length, get_or}
use Rattle.defs.specs.Computing.Test.{list_from}

pub list_from_at {ℓ} : {A : Type ℓ} (f : ℕ → A) (k n i : ℕ) (d : A) → i < n → get_or (list_from f k n) i d ≡ f (k + i)
unfolding list_from
list_from_at f k zero i d h = absurd (omega arith)
list_from_at f k (suc n) zero d h = ap f (sym (add-zero k))
list_from_at f k (suc n) (suc i) d h = list_from_at f (suc k) n i d (omega arith) ∙ ap f (omega arith)

pub list_from_past {ℓ} : {A : Type ℓ} (f : ℕ → A) (k n i : ℕ) (d : A) → n ≤ i → get_or (list_from f k n) i d ≡ d
unfolding list_from
list_from_past f k zero i d h = refl
list_from_past f k (suc n) zero d h = absurd (omega arith)
list_from_past f k (suc n) (suc i) d h = list_from_past f (suc k) n i d (omega arith)

pub length-list_from {ℓ} : {A : Type ℓ} (f : ℕ → A) (k n : ℕ) → length (list_from f k n) ≡ n
unfolding list_from
length-list_from f k zero = refl
length-list_from f k (suc n) = ap suc (length-list_from f (suc k) n)

-- what holds of each f i, and of what stands past the end, holds at each index
pub list_from_each {ℓ} : {A : Type ℓ} (P : A → Type 0) (f : ℕ → A) (d : A) → ((i : ℕ) → P (f i)) → P d →
    (k n i : ℕ) → P (get_or (list_from f k n) i d)
unfolding list_from
list_from_each P f d each past k zero i = past
list_from_each P f d each past k (suc n) zero = each k
list_from_each P f d each past k (suc n) (suc i) = list_from_each P f d each past (suc k) n i
