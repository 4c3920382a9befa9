-- The pigeonhole principle: m different numbers below n are at most n. By induction: the last of them is taken away, and it stands in
-- for the one that is n - 1, so that the others are below n - 1 and still differ.
-- Assumes nothing.
use mathlib.Core.Path.{◌≡◌, refl, sym, ◌∙◌}
use mathlib.Core.Bool.{Bool, true, false, cond}
use mathlib.Core.List.{List}
use Prim.Native.Nat.{ℕ, zero, suc, ◌-◌, ◌≤◌, ◌<◌}
use native.Mathlib.Omega.{arith}
use native.Mathlib.Decide.{dec_lt}
use lib.Dec.{eqb}
use lib.ListN.{length, get_or}
use borrow.Author.Tests.{eqb-true, eqb-false}
use Rattle.defs.specs.Computing.Words.{occurrences}
use Rattle.laws.proofs.Occurs.{occurs_at, occurs_twice}

pub pigeonhole : (m n : ℕ) (g : ℕ → ℕ) → ((a : ℕ) → a < m → g a < n) →
    ((a b : ℕ) → a < m → b < m → g a ≡ g b → a ≡ b) → m ≤ n
pigeonhole zero n g small differ = omega arith
pigeonhole (suc m) zero g small differ = absurd (omega (arith, small 0 (omega arith)))
pigeonhole (suc m) (suc n) g small differ = omega (arith, pigeonhole m n others others_small others_differ)
  where
    others : ℕ → ℕ
    others a = cond (eqb (g a) n) (g m) (g a)

    others_small : (a : ℕ) → a < m → others a < n
    others_small a l = go (eqb (g a) n) refl
      where
        go : (t : Bool) → eqb (g a) n ≡ t → cond t (g m) (g a) < n
        go true e =
            let last : g m ≡ n → ⊥ = λ q. omega (arith, differ a m (omega arith) (omega arith) (eqb-true (g a) n e ∙ sym q)) in
            omega (arith, small m (omega arith))
        go false e = omega (arith, small a (omega arith), eqb-false (g a) n e)

    others_differ : (a b : ℕ) → a < m → b < m → others a ≡ others b → a ≡ b
    others_differ a b l k = go (eqb (g a) n) (eqb (g b) n) refl refl
      where
        go : (t u : Bool) → eqb (g a) n ≡ t → eqb (g b) n ≡ u → cond t (g m) (g a) ≡ cond u (g m) (g b) → a ≡ b
        go true true e f q = differ a b (omega arith) (omega arith) (eqb-true (g a) n e ∙ sym (eqb-true (g b) n f))
        go true false e f q = absurd (omega (arith, differ m b (omega arith) (omega arith) q))
        go false true e f q = absurd (omega (arith, differ a m (omega arith) (omega arith) q))
        go false false e f q = differ a b (omega arith) (omega arith) q

-- a list of numbers from 1 to n, in which none occurs twice, has at most n of them
pub none_twice : (n : ℕ) (xs : List ℕ) → ((x : ℕ) → 0 < occurrences x xs → (0 < x) × (x ≤ n)) →
    ((x : ℕ) → occurrences x xs ≤ 1) → length xs ≤ n
none_twice n xs range once =
    pigeonhole (length xs) n (λ a. get_or xs a 0 - 1) (λ a l. omega (arith, range (get_or xs a 0) (occurs_at xs a l)))
    (λ a b l h e.
    let same : get_or xs a 0 ≡ get_or xs b 0 =
    omega (arith, range (get_or xs a 0) (occurs_at xs a l), range (get_or xs b 0) (occurs_at xs b h)) in
    go a b l h same (dec_lt a b) (dec_lt b a))
  where
    go : (a b : ℕ) → a < length xs → b < length xs → get_or xs a 0 ≡ get_or xs b 0 → Dec (a < b) → Dec (b < a) → a ≡ b
    go a b l h e (yes m) d = absurd (omega (arith, occurs_twice xs a b m h e, once (get_or xs a 0)))
    go a b l h e (no m) (yes k) = absurd (omega (arith, occurs_twice xs b a k l (sym e), once (get_or xs b 0)))
    go a b l h e (no m) (no k) = omega arith
