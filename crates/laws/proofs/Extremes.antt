-- The least and the greatest of some numbers. Assumes nothing.
use mathlib.Core.Path.{◌≡◌, sym, subst}
use Prim.Native.Nat.{ℕ, zero, suc, ◌≤◌, ◌<◌, min, max}
use native.Mathlib.Omega.{arith}
use native.Mathlib.Decide.{dec_lt}
use Rattle.defs.specs.Meaning.Turn.{greatest}
use Rattle.defs.specs.Computing.Vertices.{least_n, most_n}

-- none of f 0 .. f n is less than their least, or greater than their greatest
pub least_at : (f : ℕ → ℕ) (n i : ℕ) → i < suc n → least_n f n ≤ f i
unfolding least_n
least_at f zero i h = let e : i ≡ 0 = omega arith in subst (λ (x : ℕ). f 0 ≤ f x) (sym e) (omega arith)
least_at f (suc n) i h = go (dec_lt i (suc n)) (least_at f n i)
  where
    go : Dec (i < suc n) → (i < suc n → least_n f n ≤ f i) → min (least_n f n) (f (suc n)) ≤ f i
    go (yes l) r = omega (arith, r l)
    go (no l) r =
        let e : i ≡ suc n = omega arith in subst (λ (x : ℕ). min (least_n f n) (f (suc n)) ≤ f x) (sym e) (omega arith)

pub most_at : (f : ℕ → ℕ) (n i : ℕ) → i < suc n → f i ≤ most_n f n
unfolding most_n
most_at f zero i h = let e : i ≡ 0 = omega arith in subst (λ (x : ℕ). f x ≤ f 0) (sym e) (omega arith)
most_at f (suc n) i h = go (dec_lt i (suc n)) (most_at f n i)
  where
    go : Dec (i < suc n) → (i < suc n → f i ≤ most_n f n) → f i ≤ max (most_n f n) (f (suc n))
    go (yes l) r = omega (arith, r l)
    go (no l) r =
        let e : i ≡ suc n = omega arith in subst (λ (x : ℕ). f x ≤ max (most_n f n) (f (suc n))) (sym e) (omega arith)

-- where all are at most m, so is the greatest
pub most_limit : (f : ℕ → ℕ) (n m : ℕ) → ((i : ℕ) → i ≤ n → f i ≤ m) → most_n f n ≤ m
unfolding most_n
most_limit f zero m h = h 0 (omega arith)
most_limit f (suc n) m h = omega (arith, h (suc n) (omega arith), most_limit f n m (λ i l. h i (omega arith)))

pub greatest_limit : (f : ℕ → ℕ) (n m : ℕ) → ((i : ℕ) → i < n → f i ≤ m) → greatest f n ≤ m
unfolding greatest
greatest_limit f zero m h = omega arith
greatest_limit f (suc n) m h = omega (arith, h n (omega arith), greatest_limit f n m (λ i l. h i (omega arith)))
