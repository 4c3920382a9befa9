-- Ranges of numbers: two that follow each other are one, and each number of a range occurs in it once.
-- Assumes nothing.
use mathlib.Core.Path.{◌≡◌, refl, ap, ◌∙◌}
use mathlib.Core.List.{List, ◌∷◌, ◌++◌}
use Prim.Native.Nat.{ℕ, zero, suc, ◌+◌, ◌≤◌, ◌<◌}
use native.Mathlib.Omega.{arith}
use native.Mathlib.Nat.{add-zero, zero-add}
use native.Mathlib.Decide.{ℕ_discrete}
use Rattle.defs.specs.Computing.Test.{list_from}
use Rattle.defs.specs.Computing.Words.{occurrences}
use Rattle.laws.proofs.Occurs.{occurs_first, occurs_later}

-- r, r + 1, .. n of them
abbrev pub range : ℕ → ℕ → List ℕ
range r n = list_from (λ x. x) r n

pub range_append : (r m n : ℕ) → range r m ++ range (r + m) n ≡ range r (m + n)
unfolding list_from
range_append r zero n = rw (add-zero, zero-add)
range_append r (suc m) n =
    let e : r + suc m ≡ suc r + m = omega arith in
    let f : suc m + n ≡ suc (m + n) = omega arith in
    rw (e, f) (ap (λ (l : List ℕ). r ∷ l) (range_append (suc r) m n))

-- a number before a range does not occur in it, and one of the range occurs once
not_before : (x r n : ℕ) → x < r → occurrences x (range r n) ≡ 0
unfolding occurrences list_from
not_before x r zero h = refl
not_before x r (suc n) h =
    occurs_later x r (range (suc r) n) (λ e. omega arith) ∙ not_before x (suc r) n (omega arith)

pub once_in_range : (x r n : ℕ) → r ≤ x → x < r + n → occurrences x (range r n) ≡ 1
unfolding list_from
once_in_range x r zero l h = absurd (omega arith)
once_in_range x r (suc n) l h = go (ℕ_discrete r x) (once_in_range x (suc r) n)
  where
    go : Dec (r ≡ x) → (suc r ≤ x → x < suc r + n → occurrences x (range (suc r) n) ≡ 1) →
        occurrences x (r ∷ range (suc r) n) ≡ 1
    go (yes e) f = rw e (omega (arith, occurs_first x (range (suc x) n), not_before x (suc x) n (omega arith)))
    go (no e) f = occurs_later x r (range (suc r) n) e ∙ f (omega arith) (omega arith)
