-- Boolean tests read as facts: a test decides a statement where it is true exactly when the statement holds. The kit's
-- borrow.Author.Tests has leb, ltb and eqb; here are their combinations.
-- Assumes nothing.
use mathlib.Core.Path.{◌≡◌, refl, sym, ap, subst, ◌∙◌}
use mathlib.Core.Logic.{◌↔◌, ◌⊎◌, inl, inr, ⊎_elim, ⊎_map}
use mathlib.Core.Bool.{Bool, true, false, not, ◌&&◌, ◌||◌, false≢true}
use mathlib.Core.List.{List, [], ◌∷◌}
use Prim.Native.Nat.{ℕ, zero, suc, ◌≤◌, ◌<◌}
use native.Mathlib.Omega.{arith}
use native.Mathlib.Decide.{dec_lt}
use lib.Dec.{leb, ltb, eqb, eqb-suc-zero}
use lib.ListN.{length, get_or}
use borrow.Author.Tests.{leb-true, ltb-true, eqb-true, not-true, not-false, le-leb, lt-ltb, eq-eqb, ne_eqb}
use Rattle.defs.specs.Computing.Test.{ask, any_to, all_to, all}

-- The test b is true exactly when P holds.
abbrev pub Decides : Bool → Type 0 → Type 0
Decides b P = (b ≡ true) ↔ P

pub leb_decides : (a b : ℕ) → Decides (leb a b) (a ≤ b)
leb_decides a b = (leb-true a b, le-leb a b)

pub ltb_decides : (a b : ℕ) → Decides (ltb a b) (a < b)
ltb_decides a b = (ltb-true a b, lt-ltb a b)

pub eqb_decides : (a b : ℕ) → Decides (eqb a b) (a ≡ b)
eqb_decides a b = (eqb-true a b, eq-eqb a b)

pub and_left : (a b : Bool) → (a && b) ≡ true → a ≡ true
and_left true b e = refl
and_left false b e = e

pub and_right : (a b : Bool) → (a && b) ≡ true → b ≡ true
and_right true b e = e
and_right false b e = absurd (false≢true e)

pub and_both : {a b : Bool} → a ≡ true → b ≡ true → (a && b) ≡ true
and_both {a} {b} e f = ap (λ (c : Bool). c && b) e ∙ f

pub or_cases : (a b : Bool) → (a || b) ≡ true → (a ≡ true) ⊎ (b ≡ true)
or_cases true b e = inl refl
or_cases false b e = inr e

pub or_left : {a : Bool} (b : Bool) → a ≡ true → (a || b) ≡ true
or_left b e = ap (λ (c : Bool). c || b) e

pub or_right : (a : Bool) {b : Bool} → b ≡ true → (a || b) ≡ true
or_right true e = refl
or_right false e = e

pub and_decides : {a b : Bool} {P Q : Type 0} → Decides a P → Decides b Q → Decides (a && b) (P × Q)
and_decides {a} {b} p q = (
  λ e. (p.0 (and_left a b e), q.0 (and_right a b e)),
  λ h. and_both (p.1 h.0) (q.1 h.1),
)

pub or_decides : {a b : Bool} {P Q : Type 0} → Decides a P → Decides b Q → Decides (a || b) (P ⊎ Q)
or_decides {a} {b} p q = (
  λ e. ⊎_map p.0 q.0 (or_cases a b e),
  ⊎_elim (λ h. or_left b (p.1 h)) (λ h. or_right a (q.1 h)),
)

pub not_decides : {a : Bool} {P : Type 0} → Decides a P → Decides (not a) (¬ P)
not_decides {a = true} p = (λ e. absurd (false≢true e), λ h. absurd (h (p.0 refl)))
not_decides {a = false} p = (λ e h. false≢true (p.1 h), λ h. refl)

pub false_decides : (b : Bool) → Decides (not b) (b ≡ false)
false_decides b = (not-true b, λ e. ap not e)

pub implies_decides : {a b : Bool} {P Q : Type 0} → Decides a P → Decides b Q → Decides (not a || b) (P → Q)
implies_decides {a = true} p q = (λ e h. q.0 e, λ f. q.1 (f (p.0 refl)))
implies_decides {a = false} p q = (λ e h. absurd (false≢true (p.1 h)), λ f. refl)

-- a test that cannot pass, and two tests that pass together
pub refuted : (t : Bool) → ¬ (t ≡ true) → t ≡ false
refuted true n = absurd (n refl)
refuted false n = refl

pub same_test : (a b : Bool) → (a ≡ true → b ≡ true) → (b ≡ true → a ≡ true) → a ≡ b
same_test true b f g = sym (f refl)
same_test false b f g = sym (refuted b (λ e. false≢true (g e)))

-- the same test decides what is equivalent
pub decides_by : {a : Bool} {P Q : Type 0} → (P → Q) → (Q → P) → Decides a P → Decides a Q
decides_by f g p = (λ e. f (p.0 e), λ h. p.1 (g h))

pub pos_not_zero : (r : ℕ) → 0 < r → eqb r 0 ≡ false
pos_not_zero r h = ne_eqb r 0 (λ e. omega arith)

-- a test that is asked of positive numbers only
pub unless_zero : (n : ℕ) {b : Bool} {P : Type 0} → Decides b P → Decides (eqb n 0 || b) (0 < n → P)
unless_zero zero d = (λ e h. absurd (omega arith), λ f. refl)
unless_zero (suc n) d = rw (eqb-suc-zero n) (λ e h. d.0 e, λ f. d.1 (f (omega arith)))

pub all_to_at : (f : ℕ → Bool) (n i : ℕ) → all_to f n ≡ true → i < n → f i ≡ true
unfolding all_to
all_to_at f zero i e h = absurd (omega arith)
all_to_at f (suc n) i e h = go (dec_lt i n) (all_to_at f n i (and_right (f n) (all_to f n) e))
  where
    go : Dec (i < n) → (i < n → f i ≡ true) → f i ≡ true
    go (yes l) k = k l
    go (no l) k = subst (λ (m : ℕ). f m ≡ true) (omega arith) (and_left (f n) (all_to f n) e)

pub all_to_of : (f : ℕ → Bool) (n : ℕ) → ((i : ℕ) → i < n → f i ≡ true) → all_to f n ≡ true
unfolding all_to
all_to_of f zero h = refl
all_to_of f (suc n) h = and_both (h n (omega arith)) (all_to_of f n (λ i l. h i (omega arith)))

pub all_to_decides : (f : ℕ → Bool) (n : ℕ) (P : ℕ → Type 0) → ((i : ℕ) → i < n → Decides (f i) (P i)) →
    Decides (all_to f n) ((i : ℕ) → i < n → P i)
all_to_decides f n P d = (
  λ e i h. (d i h).0 (all_to_at f n i e h),
  λ h. all_to_of f n (λ i l. (d i l).1 (h i l)),
)

-- one of 0 .. n - 1 passes
pub record Some (f : ℕ → Bool) (n : ℕ) : Type 0 where
  pub i : ℕ
  pub below : i < n
  pub holds : f i ≡ true

pub any_to_at : (f : ℕ → Bool) (n : ℕ) → any_to f n ≡ true → Some f n
unfolding any_to
any_to_at f zero e = absurd (false≢true e)
any_to_at f (suc n) e = go (f n) refl (any_to_at f n)
  where
    go : (b : Bool) → f n ≡ b → (any_to f n ≡ true → Some f n) → Some f (suc n)
    go true q k = record { i = n; below = omega arith; holds = q }
    go false q k =
        let t = k (subst (λ (b : Bool). (b || any_to f n) ≡ true) q e) in
        record { i = t.i; below = omega (arith, t.below); holds = t.holds }

pub any_to_of : (f : ℕ → Bool) (n i : ℕ) → i < n → f i ≡ true → any_to f n ≡ true
unfolding any_to
any_to_of f zero i h e = absurd (omega arith)
any_to_of f (suc n) i h e = go (dec_lt i n) (any_to_of f n i)
  where
    go : Dec (i < n) → (i < n → f i ≡ true → any_to f n ≡ true) → (f n || any_to f n) ≡ true
    go (yes l) k = or_right (f n) (k l e)
    go (no l) k =
        let q : i ≡ n = omega arith in
        ap (λ (b : Bool). b || any_to f n) (subst (λ (a : ℕ). f a ≡ true) q e)

-- what passes for all of a list passes at each index
pub all_get_d : (f : ℕ → Bool) (xs : List ℕ) (i : ℕ) → all f xs ≡ true → i < length xs → f (get_or xs i 0) ≡ true
unfolding all
all_get_d f [] i e h = absurd (omega arith)
all_get_d f (x ∷ xs) zero e h = and_left (f x) (all f xs) e
all_get_d f (x ∷ xs) (suc i) e h = all_get_d f xs i (and_right (f x) (all f xs) e) (omega arith)

pub all_of : (f : ℕ → Bool) (xs : List ℕ) → ((i : ℕ) → i < length xs → f (get_or xs i 0) ≡ true) → all f xs ≡ true
unfolding all
all_of f [] h = refl
all_of f (x ∷ xs) h = and_both (h 0 (omega arith)) (all_of f xs (λ i l. h (suc i) (omega arith)))

pub all_decides : (f : ℕ → Bool) (P : ℕ → Type 0) → ((x : ℕ) → Decides (f x) (P x)) → (xs : List ℕ) →
    Decides (all f xs) ((i : ℕ) → i < length xs → P (get_or xs i 0))
all_decides f P d xs = (
  λ e i h. (d (get_or xs i 0)).0 (all_get_d f xs i e h),
  λ h. all_of f xs (λ i l. (d (get_or xs i 0)).1 (h i l)),
)

-- the answer of a test that is asked by `if !r`
pub said_no : {r b : Bool} → r ≡ b → not r ≡ true → b ≡ false
said_no {r} e y = sym e ∙ not-true r y

pub said_yes : {r b : Bool} → r ≡ b → not r ≡ false → b ≡ true
said_yes {r} e y = sym e ∙ not-false r y

-- questions that are asked one after another: what comes out is not this "no", so the answer was yes
pub asked : {A : Type 0} {no ok : A} (t : Bool) (rest : Unit {0} → A) → ask t no rest ≡ ok → ¬ (no ≡ ok) → (t ≡ true) × (rest tt ≡ ok)
asked true rest e n = (refl, e)
asked false rest e n = absurd (n e)

-- the first question gets the same answer, and what follows is the same where that is yes
pub ask_same : {A : Type 0} (t : Bool) (refused : A) (f g : Unit {0} → A) → (t ≡ true → f tt ≡ g tt) →
    ask t refused f ≡ ask t refused g
ask_same true refused f g h = h refl
ask_same false refused f g h = refl
