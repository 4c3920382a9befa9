-- Lists in which each of 1 to n occurs once, and no other number, have n numbers; and what occurs in several lists together.
-- Assumes nothing.
use mathlib.Core.Path.{◌≡◌, sym, ap, ◌∙◌}
use mathlib.Core.Bool.{cond}
use mathlib.Core.List.{List, [], ◌∷◌}
use Prim.Native.Nat.{ℕ, zero, suc, ◌+◌, ◌≤◌, ◌<◌}
use native.Mathlib.Omega.{arith}
use native.Mathlib.Numerals.{add-one}
use native.Mathlib.Decide.{dec_lt, ℕ_discrete}
use lib.Dec.{eqb}
use lib.ListN.{length, get_or}
use borrow.Author.Tests.{eq-eqb, ne_eqb}
use Rattle.defs.specs.Computing.Test.{list_from}
use Rattle.defs.specs.Computing.Words.{occurrences, concat}
use Rattle.laws.proofs.Occurs.{occurs_later, occurs_append}
use Rattle.laws.proofs.Pigeonhole.{pigeonhole, none_twice}

-- where x occurs first
where_is : ℕ → List ℕ → ℕ
where_is x [] = 0
where_is x (y ∷ ys) = cond (eqb y x) 0 (suc (where_is x ys))

found : (x : ℕ) (xs : List ℕ) → 0 < occurrences x xs → (where_is x xs < length xs) × (get_or xs (where_is x xs) 0 ≡ x)
unfolding where_is occurrences
found x [] o = absurd (omega arith)
found x (y ∷ ys) o = go (ℕ_discrete y x) (found x ys)
  where
    go : Dec (y ≡ x) → (0 < occurrences x ys → (where_is x ys < length ys) × (get_or ys (where_is x ys) 0 ≡ x)) →
        (where_is x (y ∷ ys) < length (y ∷ ys)) × (get_or (y ∷ ys) (where_is x (y ∷ ys)) 0 ≡ x)
    go (yes e) f = rw (eq-eqb y x e) (omega arith, e)
    go (no e) f =
        let t = f (rw (occurs_later x y ys e) at o) in
        rw (ne_eqb y x e) (omega arith, t.1)

-- a list in which each of 1 to n occurs once, and no other number, has n of them
pub once_each : (n : ℕ) (xs : List ℕ) → ((x : ℕ) → 0 < occurrences x xs → (0 < x) × (x ≤ n)) →
    ((r : ℕ) → r < n → occurrences (r + 1) xs ≡ 1) → length xs ≡ n
once_each n xs within once =
    let most = none_twice n xs within (λ x. at_most x (dec_lt 0 (occurrences x xs))) in
    let least =
    pigeonhole n (length xs) (λ r. where_is (r + 1) xs) (λ r h. (at r h).0)
    (λ a b l h e. omega (arith, sym (at a l).1 ∙ ap (λ (i : ℕ). get_or xs i 0) e ∙ (at b h).1)) in
    omega arith
  where
    at : (r : ℕ) → r < n → (where_is (r + 1) xs < length xs) × (get_or xs (where_is (r + 1) xs) 0 ≡ r + 1)
    at r h = found (r + 1) xs (omega (arith, once r h))

    at_most : (x : ℕ) → Dec (0 < occurrences x xs) → occurrences x xs ≤ 1
    at_most zero (yes o) = absurd (omega (arith, within 0 o))
    at_most (suc r) (yes o) = omega (arith, rw (add-one r) at (once r (omega (arith, within (suc r) o))))
    at_most x (no o) = omega arith

-- what holds of each number of each list holds of each number of all lists together
pub each_concat : (P : ℕ → Type 0) (ch : ℕ → List ℕ) (k n : ℕ) →
    ((i x : ℕ) → i < k + n → 0 < occurrences x (ch i) → P x) →
    (x : ℕ) → 0 < occurrences x (concat (list_from ch k n)) → P x
unfolding concat list_from occurrences
each_concat P ch k zero h x o = absurd (omega arith)
each_concat P ch k (suc n) h x o =
    go (dec_lt 0 (occurrences x (ch k))) (each_concat P ch (suc k) n (λ i x l. h i x (omega arith)) x)
  where
    go : Dec (0 < occurrences x (ch k)) → (0 < occurrences x (concat (list_from ch (suc k) n)) → P x) → P x
    go (yes q) f = h k x (omega arith) q
    go (no q) f = f (omega (arith, occurs_append x (ch k) (concat (list_from ch (suc k) n))))
