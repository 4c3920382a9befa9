-- How often a number occurs in a list, and in several lists one after another: the first of a list is counted apart, and a
-- number that occurs once in all lists together occurs in one of them alone.
-- Assumes nothing.
use mathlib.Core.Path.{◌≡◌, refl}
use mathlib.Core.Logic.{◌↔◌, ◌≢◌}
use mathlib.Core.Bool.{Bool, true}
use mathlib.Core.List.{List, [], ◌∷◌, ◌++◌}
use Prim.Native.Nat.{ℕ, zero, suc, ◌+◌, ◌≤◌, ◌<◌}
use native.Mathlib.Omega.{arith}
use native.Mathlib.Decide.{dec_lt, ℕ_discrete}
use lib.ListN.{length, get_or}
use borrow.Author.Tests.{eq-eqb, ne_eqb}
use Rattle.defs.specs.Computing.Test.{all, list_from}
use Rattle.defs.specs.Computing.Words.{occurrences, concat}
use Rattle.laws.proofs.Tests.{Decides, and_left, and_right, and_both}

pub without_zero : {n : ℕ} → 0 < 0 + n → 0 < n
without_zero h = omega arith

pub occurs_first : (x : ℕ) (xs : List ℕ) → occurrences x (x ∷ xs) ≡ suc (occurrences x xs)
unfolding occurrences
occurs_first x xs = rw (eq-eqb x x refl) (omega arith)

pub occurs_later : (x y : ℕ) (xs : List ℕ) → y ≢ x → occurrences x (y ∷ xs) ≡ occurrences x xs
unfolding occurrences
occurs_later x y xs h = rw (ne_eqb y x h) (omega arith)

pub occurs_here : (x : ℕ) (xs : List ℕ) → 0 < occurrences x (x ∷ xs)
occurs_here x xs = omega (arith, occurs_first x xs)

pub occurs_there : (x y : ℕ) (xs : List ℕ) → 0 < occurrences x xs → 0 < occurrences x (y ∷ xs)
unfolding occurrences
occurs_there x y xs h = omega arith

-- what stands at an index occurs, and what stands at two occurs twice
pub occurs_at : (xs : List ℕ) (a : ℕ) → a < length xs → 0 < occurrences (get_or xs a 0) xs
occurs_at [] a l = absurd (omega arith)
occurs_at (x ∷ xs) zero l = occurs_here x xs
occurs_at (x ∷ xs) (suc a) l = occurs_there (get_or xs a 0) x xs (occurs_at xs a (omega arith))

pub occurs_twice : (xs : List ℕ) (a b : ℕ) → a < b → b < length xs → get_or xs a 0 ≡ get_or xs b 0 →
    1 < occurrences (get_or xs a 0) xs
unfolding occurrences
occurs_twice [] a b l h e = absurd (omega arith)
occurs_twice (x ∷ xs) a zero l h e = absurd (omega arith)
occurs_twice (x ∷ xs) zero (suc b) l h e =
    let later : 0 < occurrences x xs = rw e (occurs_at xs b (omega arith)) in
    omega (arith, occurs_first x xs)
occurs_twice (x ∷ xs) (suc a) (suc b) l h e = omega (arith, occurs_twice xs a b (omega arith) (omega arith) e)

-- what passes for all of a list passes for each that occurs in it
pub all_at : (f : ℕ → Bool) (xs : List ℕ) (x : ℕ) → all f xs ≡ true → 0 < occurrences x xs → f x ≡ true
unfolding all occurrences
all_at f [] x e h = absurd (omega arith)
all_at f (y ∷ ys) x e h = go (ℕ_discrete y x) (all_at f ys x (and_right (f y) (all f ys) e))
  where
    go : Dec (y ≡ x) → (0 < occurrences x ys → f x ≡ true) → f x ≡ true
    go (yes q) k = rw q at (and_left (f y) (all f ys) e)
    go (no q) k = k (rw (occurs_later x y ys q) at h)

-- and the other way round
pub all_occurring : (f : ℕ → Bool) (xs : List ℕ) → ((x : ℕ) → 0 < occurrences x xs → f x ≡ true) → all f xs ≡ true
unfolding all
all_occurring f [] h = refl
all_occurring f (y ∷ ys) h =
    and_both (h y (occurs_here y ys)) (all_occurring f ys (λ x o. h x (occurs_there x y ys o)))

pub all_occurring_decides : (f : ℕ → Bool) (P : ℕ → Type 0) → ((x : ℕ) → Decides (f x) (P x)) → (xs : List ℕ) →
    Decides (all f xs) ((x : ℕ) → 0 < occurrences x xs → P x)
all_occurring_decides f P d xs = (
  λ e x h. (d x).0 (all_at f xs x e h),
  λ h. all_occurring f xs (λ x o. (d x).1 (h x o)),
)

pub occurs_append : (x : ℕ) (xs ys : List ℕ) → occurrences x (xs ++ ys) ≡ occurrences x xs + occurrences x ys
unfolding occurrences
occurs_append x [] ys = omega arith
occurs_append x (y ∷ xs) ys = omega (arith, occurs_append x xs ys)

-- Of the lists ch k, ch (k + 1), .. (n of them) one has x, once, and no other has it.
pub record OnlyIn (ch : ℕ → List ℕ) (x k n : ℕ) : Type 0 where
  pub place : ℕ
  pub from : k ≤ place
  pub to : place < k + n
  pub occurs : occurrences x (ch place) ≡ 1
  pub only : (i : ℕ) → k ≤ i → i < k + n → 0 < occurrences x (ch i) → i ≡ place

module _ (ch : ℕ → List ℕ) (x : ℕ) where
  -- how often x occurs in ch k, ch (k + 1), .. (n of them) together
  together : ℕ → ℕ → ℕ
  together k n = occurrences x (concat (list_from ch k n))

  together_none : (k : ℕ) → together k 0 ≡ 0
  unfolding together list_from concat occurrences
  together_none k = refl

  together_more : (k n : ℕ) → together k (suc n) ≡ occurrences x (ch k) + together (suc k) n
  unfolding together list_from concat
  together_more k n = occurs_append x (ch k) _

  -- no list has x more often than all of them together
  part_most : (k n i : ℕ) → k ≤ i → i < k + n → occurrences x (ch i) ≤ together k n
  part_most k zero i l h = absurd (omega arith)
  part_most k (suc n) i l h = go (dec_lt k i) (part_most (suc k) n i)
    where
      go : Dec (k < i) → (suc k ≤ i → i < suc k + n → occurrences x (ch i) ≤ together (suc k) n) →
          occurrences x (ch i) ≤ together k (suc n)
      go (yes q) f = omega (arith, together_more k n, f q (omega arith))
      go (no q) f = let e : i ≡ k = omega arith in rw e (omega (arith, together_more k n))

  nowhere : (k n : ℕ) → ((i : ℕ) → k ≤ i → i < k + n → ¬ (0 < occurrences x (ch i))) → together k n ≡ 0
  nowhere k zero h = together_none k
  nowhere k (suc n) h =
      omega (arith, together_more k n, h k (omega arith) (omega arith), nowhere (suc k) n (λ i l m. h i (omega arith) (omega arith)))

  -- Either the first list has x, and then no later one has; or it has not, and a later one has x alone.
  only_of_once : (k n : ℕ) → together k n ≡ 1 → OnlyIn ch x k n
  only_of_once k zero e = absurd (omega (arith, together_none k))
  only_of_once k (suc n) e = go (dec_lt 0 (occurrences x (ch k))) (only_of_once (suc k) n)
    where
      go : Dec (0 < occurrences x (ch k)) → (together (suc k) n ≡ 1 → OnlyIn ch x (suc k) n) → OnlyIn ch x k (suc n)
      go (yes q) f =
          record {
            place = k;
            from = omega arith;
            to = omega arith;
            occurs = omega (arith, together_more k n);
            only = λ i l h p. here_only i l h p (dec_lt k i);
          }
        where
          here_only : (i : ℕ) → k ≤ i → i < k + suc n → 0 < occurrences x (ch i) → Dec (k < i) → i ≡ k
          here_only i l h p (yes m) =
              absurd (omega (arith, together_more k n, part_most (suc k) n i m (omega arith)))
          here_only i l h p (no m) = omega arith
      go (no q) f = later (f (omega (arith, together_more k n)))
        where
          later : OnlyIn ch x (suc k) n → OnlyIn ch x k (suc n)
          later t =
              record {
                place = t.place;
                from = omega (arith, t.from);
                to = omega (arith, t.to);
                occurs = t.occurs;
                only = λ i l h p. further_only i l h p (dec_lt k i);
              }
            where
              further_only : (i : ℕ) → k ≤ i → i < k + suc n → 0 < occurrences x (ch i) → Dec (k < i) → i ≡ t.place
              further_only i l h p (yes m) = t.only i m (omega arith) p
              further_only i l h p (no m) = let e : i ≡ k = omega arith in absurd (q (rw e at p))

  once_of_only : (k n : ℕ) → OnlyIn ch x k n → together k n ≡ 1
  once_of_only k zero t = absurd (omega (arith, t.from, t.to))
  once_of_only k (suc n) t = go (dec_lt k t.place) (once_of_only (suc k) n)
    where
      go : Dec (k < t.place) → (OnlyIn ch x (suc k) n → together (suc k) n ≡ 1) → together k (suc n) ≡ 1
      go (yes q) f =
          let none : ¬ (0 < occurrences x (ch k)) = λ p. omega (arith, t.only k (omega arith) (omega arith) p) in
          let rest =
          f (record {
            place = t.place;
            from = q;
            to = omega (arith, t.to);
            occurs = t.occurs;
            only = λ i l h p. t.only i (omega arith) (omega arith) p;
          }) in
          omega (arith, together_more k n)
      go (no q) f =
          let e : t.place ≡ k = omega (arith, t.from) in
          let one : occurrences x (ch k) ≡ 1 = rw e at t.occurs in
          let none = nowhere (suc k) n (λ i l h p. omega (arith, t.only i (omega arith) (omega arith) p)) in
          omega (arith, together_more k n)

  pub once_is_only_in : (k n : ℕ) → (occurrences x (concat (list_from ch k n)) ≡ 1) ↔ OnlyIn ch x k n
  unfolding together
  once_is_only_in k n = (only_of_once k n, once_of_only k n)
