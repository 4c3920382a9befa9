-- Questions 7 and 8: what they give, 8 by the bounds, and what their answer says of the questions after them.
-- Assumes nothing.
use mathlib.Core.Path.{◌≡◌, refl, ap, sym, ◌∙◌}
use mathlib.Core.Bool.{Bool, true, false, true≢false}
use mathlib.Core.List.{List, [], ◌∷◌}
use mathlib.Core.Logic.{⊎_elim}
use Prim.Native.Nat.{ℕ, zero, suc, ◌+◌, ◌*◌, ◌-◌, ◌/◌, ◌%◌, ◌≤◌, ◌<◌}
use native.Mathlib.Omega.{arith}
use lib.Dec.{leb}
use lib.ListN.{length, get_or}
use borrow.Author.Tests.{leb-true, le-leb}
use Rattle.defs.specs.Meaning.Outline.{vx, vy, sides}
use Rattle.defs.specs.Meaning.Question.{Question8}
use Rattle.defs.specs.Computing.Test.{ask, all}
use Rattle.defs.specs.Computing.Calls.{q7b, q8b}
use Rattle.laws.proofs.Tests.{and_left, and_right}
use Rattle.laws.proofs.Questions.{question_7, question_8}
use Rattle.laws.proofs.Extremes.{most_at, most_limit}
use Rattle.geom.proofs.Strip.{lt_or_le}
use Rattle.outline.specs.declared.Bounds.{Bounds}
use Rattle.outline.specs.Vertex.{Lent, BoundsOf}
use Rattle.checks.specs.Says.{bounds_no}

-- each word of an outline that passes 8 is small, and past its end the words read as 0
small : (o : List ℕ) → q8b o ≡ true → (i : ℕ) → get_or o i 0 ≤ 16000
unfolding q8b all
small [] e i = omega arith
small (x ∷ xs) e zero = leb-true x 16000 (and_left (leb x 16000) _ e)
small (x ∷ xs) e (suc i) = small xs (and_right (leb x 16000) _ e) i

pub lent_of : (o : List ℕ) → q7b o ≡ true → q8b o ≡ true → Lent o
lent_of o a b =
    let q = (question_7 o).0 a in
    record {
      even = omega (arith, q.even);
      some = omega (arith, q.words.at_least);
      few = omega (arith, q.words.at_most);
      small = small o b;
    }

pub has_vertex : (o : List ℕ) → q7b o ≡ true → 1 ≤ sides o
has_vertex o a = omega (arith, ((question_7 o).0 a).words.at_least)

-- question 8 by the greatest x and the greatest y: each word is an x or a y
module _ (o : List ℕ) {b : Bounds} (seven : q7b o ≡ true) (bounds : BoundsOf o b) where
  word : (i : ℕ) → i < length o → b.right ≤ 16000 → b.head ≤ 16000 → get_or o i 0 ≤ 16000
  word i l right head =
      let q = (question_7 o).0 seven in
      ⊎_elim
      (λ m.
      let at : get_or o i 0 ≡ vx o (i / 2) = ap (λ (k : ℕ). get_or o k 0) (omega arith) in
      omega (arith, at, bounds.right, most_at (vx o) (sides o - 1) (i / 2) (omega (arith, q.even))))
      (λ m.
      let at : get_or o i 0 ≡ vy o (i / 2) = ap (λ (k : ℕ). get_or o k 0) (omega arith) in
      omega (arith, at, bounds.head, most_at (vy o) (sides o - 1) (i / 2) (omega (arith, q.even))))
      (lt_or_le (i % 2) 1)

  -- an outline that passes 8 has small bounds
  right_small : q8b o ≡ true → b.right ≤ 16000
  right_small e = omega (arith, bounds.right, most_limit (vx o) (sides o - 1) 16000 (λ i _. small o e (2 * i)))

  head_small : q8b o ≡ true → b.head ≤ 16000
  head_small e = omega (arith, bounds.head, most_limit (vy o) (sides o - 1) 16000 (λ i _. small o e (2 * i + 1)))

  both_small : b.right ≤ 16000 → b.head ≤ 16000 → q8b o ≡ true
  unfolding Question8
  both_small right head = (question_8 o).1 (λ i l. word i l right head)

  refuted : (q8b o ≡ true → ⊥) → q8b o ≡ false
  refuted n = go (q8b o) refl
    where
      go : (a : Bool) → q8b o ≡ a → q8b o ≡ false
      go true e = absurd (n e)
      go false e = e

  pub too_wide : 16000 < b.right → false ≡ q8b o
  too_wide l = sym (refuted (λ e. omega (arith, right_small e)))

  pub as_tall : b.right ≤ 16000 → leb b.head 16000 ≡ q8b o
  as_tall right = go (leb b.head 16000) refl
    where
      go : (a : Bool) → leb b.head 16000 ≡ a → a ≡ q8b o
      go true e = sym (both_small right (leb-true b.head 16000 e))
      go false e = sym (refuted (λ q. true≢false (sym (le-leb b.head 16000 (head_small q)) ∙ e)))

-- the answer to 7 and 8
module _ (o : List ℕ) where
  pub no_7 : q7b o ≡ false → 7 ≡ bounds_no o
  unfolding bounds_no
  no_7 a = rw a refl

  pub no_8 : q7b o ≡ true → q8b o ≡ false → 8 ≡ bounds_no o
  unfolding bounds_no
  no_8 a b = rw (a, b) refl

  pub none_no : q7b o ≡ true → q8b o ≡ true → bounds_no o ≡ 0
  unfolding bounds_no
  none_no a b = rw (a, b) refl

  pub passed : bounds_no o ≡ 0 → (q7b o ≡ true) × (q8b o ≡ true)
  unfolding bounds_no
  passed z = go (q7b o) (q8b o) refl refl z
    where
      go : (a b : Bool) → q7b o ≡ a → q8b o ≡ b → ◌≡◌ {A = ℕ} (ask a 7 λ _. ask b 8 λ _. 0) 0 → (q7b o ≡ true) × (q8b o ≡ true)
      go false b p q e = absurd (omega arith)
      go true false p q e = absurd (omega arith)
      go true true p q e = (p, q)

  pub lent_by : bounds_no o ≡ 0 → Lent o
  lent_by z = let p = passed z in lent_of o p.0 p.1

  -- a "no" to 7 or 8 is the first of 7, 8 and the questions after them
  pub first_no_lem : {A : Type 0} (of : ℕ → A) (rest : A) {n : ℕ} → n ≡ bounds_no o → 0 < n →
      of n ≡ (ask (q7b o) (of 7) λ _. ask (q8b o) (of 8) λ _. rest)
  unfolding bounds_no
  first_no_lem {A} of rest {n} e l = ap of e ∙ go (q7b o) (q8b o) (omega arith)
    where
      go : (a b : Bool) → 0 < (ask a 7 λ _. ask b 8 λ _. 0) →
          of (ask a 7 λ _. ask b 8 λ _. 0) ≡ (ask a (of 7) λ _. ask b (of 8) λ _. rest)
      go false b m = refl
      go true false m = refl
      go true true m = absurd (omega arith)
