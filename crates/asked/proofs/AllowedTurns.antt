-- Question 11 over the allowed turns: its answer is "yes" where one of them has a cell, and "no" where none below 4 has.
-- Question 10 says that each of them keeps its order, which the count of its cells rests on.
-- Assumes nothing.
use mathlib.Core.Path.{◌≡◌, refl, ap, sym, ◌∙◌}
use mathlib.Core.Bool.{Bool, true, false, not, false≢true}
use mathlib.Core.List.{List}
use Prim.Native.Nat.{ℕ, ◌+◌, ◌≤◌, ◌<◌}
use native.Mathlib.Omega.{arith}
use borrow.Author.Tests.{not-true}
use Rattle.std.specs.Bool.{MatchBool}
use Rattle.std.specs.List.{range_with_len, AllWithin, HoldsAt}
use Rattle.laws.proofs.Tests.{not_decides, decides_by}
use Rattle.laws.proofs.Questions.{allowed}
use Rattle.defs.specs.Meaning.Outline.{KeepsOrder}
use Rattle.defs.specs.Meaning.Turn.{turned, Allows}
use Rattle.defs.specs.Meaning.Question.{Question10}
use Rattle.defs.specs.Computing.Cells.{piece_runs, count_runs, allowedb}
use Rattle.geom.proofs.Column.{and_last}
use Rattle.geom.proofs.Checks.{some_run, question_11}
use Rattle.outline.specs.Vertex.{Lent}
use Rattle.inside.specs.Cell.{HasCell}
use Rattle.asked.specs.Answers.{AllowedCell, SomeCell}
use Rattle.inside.proofs.OneColumn.{some_side}

-- question 10 of an allowed turn, and of one that passes the mask's test
allowed_ordered : (o : List ℕ) (mask : ℕ) → Question10 o mask → (t : ℕ) → Allows mask t → KeepsOrder (turned o t)
unfolding Question10
allowed_ordered o mask q = q

pub allowed_keeps : {a : Bool} (o : List ℕ) (mask t : ℕ) → Question10 o mask → t ≤ 3 → a ≡ allowedb mask t → a ≡ true → KeepsOrder (turned o t)
allowed_keeps o mask t q l e y = allowed_ordered o mask q t ((allowed mask t l).0 (sym e ∙ y))

-- an allowed turn has what `has_cell` says of it; of one that is not allowed no cell counts
pub allowed_has : {a r : Bool} (o : List ℕ) (mask t : ℕ) → t ≤ 3 → a ≡ allowedb mask t → a ≡ true → HasCell o t r → AllowedCell o mask t r
allowed_has o mask t l e y h =
    record { every = λ R Rpos. decides_by (λ p. ((allowed mask t l).0 (sym e ∙ y), p)) (λ q. q.1) (h.every R Rpos) }

pub barred_has : {a : Bool} (o : List ℕ) (mask t : ℕ) → t ≤ 3 → a ≡ allowedb mask t → a ≡ false → AllowedCell o mask t a
barred_has o mask t l e n =
    record { every = λ R Rpos. (λ z. absurd (false≢true (sym n ∙ z)), λ q. e ∙ (allowed mask t l).1 q.0) }

-- no allowed turn below n has a run
pub record NoneBelow (o : List ℕ) (mask n : ℕ) : Type 0 where
  pub none : (t : ℕ) → t < n → Allows mask t → (R : ℕ) → 1 ≤ R → ¬ (0 < count_runs (piece_runs o t R 0))

none_yet : (o : List ℕ) (mask : ℕ) → NoneBelow o mask 0
none_yet o mask = record { none = λ t l a R Rpos p. omega arith }

none_more : {r : Bool} {o : List ℕ} {mask n : ℕ} → NoneBelow o mask n → AllowedCell o mask n r → r ≡ false → NoneBelow o mask (n + 1)
none_more {r} {o} {mask} {n} u c e =
    record {
      none = λ t l.
          and_last n (λ t. Allows mask t → (R : ℕ) → 1 ≤ R → ¬ (0 < count_runs (piece_runs o t R 0))) u.none
          (λ a R Rpos p. (not_decides (c.every R Rpos)).0 (ap not e) (a, p)) t (omega arith);
    }

module _ (o : List ℕ) (mask : ℕ) (lent : Lent o) (orders : Question10 o mask) where
  turn_found : {t : ℕ} {r : Bool} → AllowedCell o mask t r → r ≡ true → SomeCell o mask true
  turn_found {t} c y =
      record {
        every = λ R Rpos.
            let p = (c.every R Rpos).0 y in
            let z = (some_run o t R (allowed_ordered o mask orders t p.0) (some_side lent) Rpos 0).0 p.1 in
            sym ((question_11 o mask R orders (some_side lent) Rpos).1
            (record { turn = t; column = z.0; row = z.1; allowed = p.0; covered = z.2 }));
      }

  none_found : {t : ℕ} → NoneBelow o mask t → t ≡ 4 → SomeCell o mask false
  none_found u e =
      record {
        every = λ R Rpos.
            sym
            (not-true _
            ((not_decides (question_11 o mask R orders (some_side lent) Rpos)).1
            (λ q.
            u.none q.turn (omega (arith, q.allowed.turn)) q.allowed R Rpos
            ((some_run o q.turn R (allowed_ordered o mask orders q.turn q.allowed) (some_side lent) Rpos 0).1
            (q.column, q.row, q.covered)))));
      }

  -- the four turns, asked one after another up to the first that has a cell
  pub turns_asked : (r : Bool) →
      MatchBool r ((k : ℕ) × (k < 4) × HoldsAt (λ t. AllowedCell o mask t true) (range_with_len 0 4) k)
      (AllWithin (λ t. AllowedCell o mask t false) (range_with_len 0 4) 0 4) → SomeCell o mask r
  turns_asked true h = turn_found (h.2 0) refl
  turns_asked false h =
      let at = λ (k : ℕ) (l : k < 4). h k 0 (omega arith) l in
      none_found (none_more (none_more (none_more (none_more (none_yet o mask) (at 0 (omega arith)) refl) (at 1 (omega arith)) refl) (at 2 (omega arith)) refl) (at 3 (omega arith)) refl) refl
