-- The first number at which a search finds something: what is found is found first, and where nothing is found there is nothing; and
-- both the other way round.
-- Assumes nothing.
use mathlib.Core.Path.{◌≡◌, refl, sym, ap, ◌∙◌}
use mathlib.Core.Logic.{◌⊎◌, inl, inr, ⊎_elim, ◌≢◌}
use mathlib.Core.Bool.{Bool, true, false, cond, false≢true}
use Prim.Native.Nat.{ℕ, zero, suc, ◌+◌, ◌-◌, ◌≤◌, ◌<◌}
use native.Mathlib.Omega.{arith}
use native.Mathlib.Decide.{dec_lt}
use Rattle.std.specs.Prelude.{Option, Some, None}
use Rattle.std.proofs.lemmas.Option.{same_Some, none-some}
use Rattle.defs.specs.Computing.Test.{first_from}

here_or_later : (k m : ℕ) → k ≤ m → (k < m) ⊎ (m ≡ k)
here_or_later k m l = elim (dec_lt k m) [ yes h ↦ inl h | no h ↦ inr (omega arith) ]

-- the first of k, k + 1, .. (n of them) at which f finds something, and what it finds there
pub record First {A : Type 0} (f : ℕ → Option A) (k n : ℕ) (a : A) : Type 0 where
  pub at : ℕ
  pub from : k ≤ at
  pub below : at < k + n
  pub finds : f at ≡ Some a
  pub before : (m : ℕ) → k ≤ m → m < at → f m ≡ None

-- nothing at k, and nothing from k + 1 on
from_next : {A : Type 0} (f : ℕ → Option A) (k end : ℕ) → f k ≡ None → ((m : ℕ) → suc k ≤ m → m < end → f m ≡ None) →
    (m : ℕ) → k ≤ m → m < end → f m ≡ None
from_next f k end q h m l u =
    ⊎_elim (λ next. h m next u) (λ here. ap f here ∙ q) (here_or_later k m l)

pub first_at : {A : Type 0} (f : ℕ → Option A) (k n : ℕ) (a : A) → first_from f k n ≡ Some a → First f k n a
unfolding first_from
first_at f k zero a e = absurd (none-some a e)
first_at {A} f k (suc n) a e = go (f k) refl e (first_at f (suc k) n a)
  where
    go : (x : Option A) → f k ≡ x → elim x [ None ↦ first_from f (suc k) n | Some b ↦ Some b ] ≡ Some a →
        (first_from f (suc k) n ≡ Some a → First f (suc k) n a) → First f k (suc n) a
    go None q r later =
        let t = later r in
        record {
          at = t.at;
          from = omega (arith, t.from);
          below = omega (arith, t.below);
          finds = t.finds;
          before = from_next f k t.at q t.before;
        }
    go (Some b) q r later =
        record { at = k; from = omega arith; below = omega arith; finds = q ∙ r; before = λ m l u. absurd (omega arith) }

pub none_at : {A : Type 0} (f : ℕ → Option A) (k n : ℕ) → first_from f k n ≡ None → (m : ℕ) → k ≤ m → m < k + n → f m ≡ None
unfolding first_from
none_at f k zero e = λ m l u. absurd (omega arith)
none_at {A} f k (suc n) e = go (f k) refl e (none_at f (suc k) n)
  where
    go : (x : Option A) → f k ≡ x → ◌≡◌ {A = Option A} (elim x [ None ↦ first_from f (suc k) n | Some b ↦ Some b ]) None →
        (first_from f (suc k) n ≡ None → (m : ℕ) → suc k ≤ m → m < suc k + n → f m ≡ None) →
        (m : ℕ) → k ≤ m → m < k + suc n → f m ≡ None
    go None q r later = from_next f k (k + suc n) q (λ m l u. later r m l (omega arith))
    go (Some b) q r later = absurd (none-some b (sym r))

-- and back: what is found first is the first, and where nothing is found there is none

-- the search by what is found at k
pub from_here : {A : Type 0} (f : ℕ → Option A) (k n : ℕ) (x : Option A) → f k ≡ x →
    first_from f k (suc n) ≡ elim x [ None ↦ first_from f (suc k) n | Some b ↦ Some b ]
unfolding first_from
from_here f k n x e = ap (λ y. elim y [ None ↦ first_from f (suc k) n | Some b ↦ Some b ]) e

pub first_of : {A : Type 0} (f : ℕ → Option A) (k n : ℕ) (a : A) → First f k n a → first_from f k n ≡ Some a
first_of f k zero a h = absurd (omega (arith, h.from, h.below))
first_of f k (suc n) a h =
    ⊎_elim
    (λ l.
    from_here f k n None (h.before k (omega arith) l) ∙
    first_of f (suc k) n a
    (record {
      at = h.at;
      from = l;
      below = omega (arith, h.below);
      finds = h.finds;
      before = λ m x y. h.before m (omega arith) y;
    }))
    (λ here. from_here f k n (Some a) (ap f (sym here) ∙ h.finds)) (here_or_later k h.at h.from)

pub none_of : {A : Type 0} (f : ℕ → Option A) (k n : ℕ) → ((m : ℕ) → k ≤ m → m < k + n → f m ≡ None) → first_from f k n ≡ None
unfolding first_from
none_of f k zero h = refl
none_of f k (suc n) h =
    from_here f k n None (h k (omega arith) (omega arith)) ∙
    none_of f (suc k) n (λ m x y. h m (omega arith) (omega arith))

-- what is found where a test passes
pub if_true : {A : Type 0} (b : Bool) {x a : A} → cond b (Some x) None ≡ Some a → (b ≡ true) × (x ≡ a)
if_true true e = (refl, same_Some _ _ e)
if_true false {a = a} e = absurd (none-some a e)

pub if_none : {A : Type 0} (b : Bool) (x : A) → cond b (Some x) None ≡ None → b ≢ true
if_none true x e = absurd (none-some x (sym e))
if_none false x e = false≢true

-- A search that goes on at j: what it finds from there on is what there is to find.
module _ {A : Type 0} (f : ℕ → Option A) (n : ℕ) (whole : Option A) where
  unfoldable pub LeftFrom : ℕ → Type 0
  LeftFrom j = whole ≡ first_from f j (n - j)

  module _ {j : ℕ} (l : j < n) (left : LeftFrom j) where
    by_next : (x : Option A) → f j ≡ x → whole ≡ elim x [ None ↦ first_from f (suc j) (n - suc j) | Some a ↦ Some a ]
    unfolding LeftFrom
    by_next x e =
        let s : n - j ≡ suc (n - suc j) = omega arith in left ∙ ap (first_from f j) s ∙ from_here f j (n - suc j) x e

    pub left_next : f j ≡ None → LeftFrom (j + 1)
    unfolding LeftFrom
    left_next e = let s : suc j ≡ j + 1 = omega arith in by_next None e ∙ ap (λ (k : ℕ). first_from f k (n - k)) s

    pub left_found : (a : A) → f j ≡ Some a → whole ≡ Some a
    left_found a e = by_next (Some a) e

  pub left_none : {j : ℕ} → n ≤ j → LeftFrom j → whole ≡ None
  unfolding LeftFrom first_from
  left_none {j} l left = let e : n - j ≡ 0 = omega arith in left ∙ ap (first_from f j) e
