-- Two finite sequences, one after the other; and that n different numbers below n are all of them.
-- Assumes nothing.
use mathlib.Core.Path.{◌≡◌, refl, ap, sym, ◌∙◌}
use mathlib.Core.Bool.{Bool, true, false, cond, false≢true}
use Prim.Native.Nat.{ℕ, ◌+◌, ◌-◌, ◌≤◌, ◌<◌}
use native.Mathlib.Omega.{arith}
use native.Mathlib.Decide.{dec_lt}
use borrow.Author.Tests.{lt-ltb, le-ltb, eqb-true, eq-eqb}
use lib.Dec.{ltb, eqb}
use Rattle.defs.specs.Computing.Test.{any_to}
use Rattle.laws.proofs.Tests.{any_to_at, any_to_of}
use Rattle.laws.proofs.Pigeonhole.{pigeonhole}

-- f 0 .. f (n - 1), g 0, g 1 ..
unfoldable pub joined : (ℕ → ℕ) → (ℕ → ℕ) → ℕ → ℕ → ℕ
joined f g n a = cond (ltb a n) (f a) (g (a - n))

module _ (f g : ℕ → ℕ) (n : ℕ) where
  pub joined_left : (a : ℕ) → a < n → joined f g n a ≡ f a
  unfolding joined
  joined_left a l = simp (lt-ltb a n l)

  pub joined_right : (a j : ℕ) → a ≡ n + j → joined f g n a ≡ g j
  unfolding joined
  joined_right a j e =
      let l : n ≤ a = omega arith in
      let d : a - n ≡ j = omega arith in
      simp (le-ltb a n l, d)

  module _ (k : ℕ) where
    -- what holds of both holds of all
    pub joined_each : (P : ℕ → Type 0) → ((a : ℕ) → a < n → P (f a)) → ((j : ℕ) → j < k → P (g j)) →
        (a : ℕ) → a < n + k → P (joined f g n a)
    joined_each P left right a l = go (dec_lt a n)
      where
        go : Dec (a < n) → P (joined f g n a)
        go (yes h) = rw (joined_left a h) (left a h)
        go (no h) = rw (joined_right a (a - n) (omega arith)) (right (a - n) (omega arith))

    pub joined_differ : ((a b : ℕ) → a < n → b < n → f a ≡ f b → a ≡ b) →
        ((i j : ℕ) → i < k → j < k → g i ≡ g j → i ≡ j) → ((a j : ℕ) → a < n → j < k → f a ≡ g j → ⊥) →
        (a b : ℕ) → a < n + k → b < n + k → joined f g n a ≡ joined f g n b → a ≡ b
    joined_differ left right apart a b l m e = go (dec_lt a n) (dec_lt b n)
      where
        right_of : (x : ℕ) → ¬ (x < n) → joined f g n x ≡ g (x - n)
        right_of x h = joined_right x (x - n) (omega arith)

        go : Dec (a < n) → Dec (b < n) → a ≡ b
        go (yes h) (yes i) = left a b h i (sym (joined_left a h) ∙ e ∙ joined_left b i)
        go (yes h) (no i) = absurd (apart a (b - n) h (omega arith) (sym (joined_left a h) ∙ e ∙ right_of b i))
        go (no h) (yes i) = absurd (apart b (a - n) i (omega arith) (sym (joined_left b i) ∙ sym e ∙ right_of a h))
        go (no h) (no i) =
            omega (arith, right (a - n) (b - n) (omega arith) (omega arith) (sym (right_of a h) ∙ e ∙ right_of b i))

-- x is one of f 0 .. f (n - 1)
pub record Among (f : ℕ → ℕ) (n x : ℕ) : Type 0 where
  pub index : ℕ
  pub below : index < n
  pub is : f index ≡ x

-- with a number that is left out they would be n + 1
pub onto : (n : ℕ) (f : ℕ → ℕ) → ((a : ℕ) → a < n → f a < n) →
    ((a b : ℕ) → a < n → b < n → f a ≡ f b → a ≡ b) → (x : ℕ) → x < n → Among f n x
onto n f small differ x l = go (any_to (λ a. eqb (f a) x) n) refl
  where
    go : (t : Bool) → any_to (λ a. eqb (f a) x) n ≡ t → Among f n x
    go true e =
        let t = any_to_at (λ a. eqb (f a) x) n e in
        record { index = t.i; below = t.below; is = eqb-true (f t.i) x t.holds }
    go false e =
        absurd
        (omega (
          arith,
          pigeonhole (n + 1) n (joined f (λ j. x) n) (joined_each f (λ j. x) n 1 (λ a. a < n) small (λ j h. l))
              (joined_differ f (λ j. x) n 1 differ (λ i j h m q. omega arith)
              (λ a j h m q. false≢true (sym e ∙ any_to_of (λ b. eqb (f b) x) n a h (eq-eqb (f a) x q)))),
        ))

-- if each number below n is one of m numbers, then n is at most m
pub covers : (n m : ℕ) (f : ℕ → ℕ) → ((x : ℕ) → x < n → Among f m x) → n ≤ m
covers n m f each =
    pigeonhole n m (λ x. index x (dec_lt x n)) (λ x l. (index_is x l (dec_lt x n)).0)
    (λ x y l h e. sym (index_is x l (dec_lt x n)).1 ∙ ap f e ∙ (index_is y h (dec_lt y n)).1)
  where
    index : (x : ℕ) → Dec (x < n) → ℕ
    index x (yes l) = (each x l).index
    index x (no l) = 0

    index_is : (x : ℕ) → x < n → (d : Dec (x < n)) → (index x d < m) × (f (index x d) ≡ x)
    index_is x l (yes h) = ((each x h).below, (each x h).is)
    index_is x l (no h) = absurd (h l)
