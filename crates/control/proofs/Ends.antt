-- The lists of questions have no number 0, and each ends with as many values as its call answers. So an outcome with number 0 is a
-- granted one, and the packed number of an outcome says all of it.
-- Assumes nothing.
use mathlib.Core.Path.{◌≡◌, refl, sym, ap, ◌∙◌}
use mathlib.Core.Logic.{◌⊎◌, ◌≢◌, ⊎_elim}
use mathlib.Core.Bool.{cond}
use mathlib.Core.List.{List, [], ◌∷◌}
use Prim.Native.Nat.{ℕ, zero, suc, ◌+◌}
use native.Mathlib.Omega.{arith}
use lib.Dec.{eqb, eqb-suc-zero}
use lib.ListN.{length, get_or, take, drop}
use Rattle.defs.specs.Answer.{Outcome}
use Rattle.defs.specs.declared.Position.{Position}
use Rattle.defs.specs.Meaning.Cell.{Cells}
use Rattle.defs.specs.Meaning.Strip.{width_of, resolution_of, columns_of, gap_of}
use Rattle.defs.specs.Meaning.Placing.{Best, cells_in}
use Rattle.defs.specs.Meaning.Sheet.{after_piece}
use Rattle.defs.specs.Meaning.Question.{Question4, Question5, Question6, Question7Sheet}
use Rattle.packing.specs.Packed.{first16, second16, Packs, PacksWide, PacksLong}
use Rattle.claims.specs.Numbers.{Questions, asks, grants, Answers, RunsAre, open_questions, cover_questions, place_questions, commit_questions, chain_questions, list_questions, read_questions, write_questions, LaidTotals, lay_questions, lay_questions_to}
use Rattle.strokes.specs.Stroke.{DrawnOnce, FirstShared}
use Rattle.knife.specs.Retraced.{retrace_questions}
use Rattle.pathclaims.specs.Paths.{read_path_questions, write_path_questions}
use Rattle.control.specs.Answered.{taken_as, taken, taken_wide, taken_long}

-- no number is 0, and there are k values in the end
pub data Ended (k : ℕ) : Questions → Type 1 where
  end : {given : List ℕ → Type 0} → ((vs : List ℕ) → given vs → length vs ≡ k) → Ended k (grants given)
  more : {n o : ℕ} {P : Type 0} {next : P → Questions} → ((p : P) → Ended k (next p)) → Ended k (asks (suc n) o P next)

pub record Granted (k : ℕ) (a : Outcome) : Type 0 where
  pub ordinal : a.ordinal ≡ 0
  pub values : length a.values ≡ k

pub number_0 : (k : ℕ) (qs : Questions) (a : Outcome) → Ended k qs → Answers qs a → a.number ≡ 0 → Granted k a
unfolding Answers
number_0 k (asks n o P next) a (more e) h z =
    ⊎_elim (λ no_one. absurd (omega (arith, no_one.1)))
    (λ yes-one. number_0 k (next yes-one.0) a (e yes-one.0) (yes-one.1 yes-one.0) z) h
number_0 k (grants given) a (end e) h z = record { ordinal = h.1; values = e a.values h.2 }

pub other_number : (k : ℕ) (qs : Questions) (a : Outcome) → Answers qs a → a.number ≢ 0 → a.values ≡ []
unfolding Answers
other_number k (asks n o P next) a h z =
    ⊎_elim (λ no_one. no_one.3) (λ yes-one. other_number k (next yes-one.0) a (yes-one.1 yes-one.0) z) h
other_number k (grants given) a h z = absurd (z h.0)

-- an outcome by its parts
outcome_is : (a : Outcome) (number ordinal : ℕ) (values : List ℕ) → a.number ≡ number → a.ordinal ≡ ordinal → a.values ≡ values →
    a ≡ record { number = number; ordinal = ordinal; values = values }
outcome_is a number ordinal values en ek ev = rw (← en, ← ek, ← ev)

pub where_0 : {A : Type 0} (n : ℕ) (x y : A) → n ≡ 0 → cond (eqb n 0) x y ≡ x
where_0 n x y e = rw e refl

pub where_not : {A : Type 0} (n m : ℕ) (x y : A) → n ≡ suc m → cond (eqb n 0) x y ≡ y
where_not n m x y e = rw (e, eqb-suc-zero m)

-- What is read, of which so many values are asked for, is the outcome.
taken_as_is : (k n : ℕ) (read : List ℕ) (qs : Questions) (a : Outcome) → first16 n ≡ a.number →
    (a.number ≢ 0 → second16 n ≡ a.ordinal) → take (length a.values) read ≡ a.values → Ended k qs → Answers qs a →
    a ≡ taken_as (take k read) n
taken_as_is k n read qs a number ordinal values e h = go a.number refl
  where
    go : (m : ℕ) → a.number ≡ m → a ≡ taken_as (take k read) n
    go zero z =
        let g = number_0 k qs a e h z in
        let f : first16 n ≡ 0 = number ∙ z in
        outcome_is a _ _ _ (sym number) (g.ordinal ∙ sym (where_0 (first16 n) 0 (second16 n) f))
        (sym values ∙ ap (λ (j : ℕ). take j read) g.values ∙ sym (where_0 (first16 n) (take k read) [] f))
    go (suc m) z =
        let not-0 : a.number ≢ 0 = λ u. omega (arith, z, u) in
        let f : first16 n ≡ suc m = number ∙ z in
        outcome_is a _ _ _ (sym number) (sym (ordinal not-0) ∙ sym (where_not (first16 n) m 0 (second16 n) f))
        (other_number k qs a h not-0 ∙ sym (where_not (first16 n) m (take k read) [] f))

pub taken_is : (k n : ℕ) (qs : Questions) (a : Outcome) → Packs n a → Ended k qs → Answers qs a → a ≡ taken k n
taken_is k n qs a p e h = taken_as_is k n _ qs a p.number p.ordinal p.values e h

pub taken_wide_is : (n : ℕ) (qs : Questions) (a : Outcome) → PacksWide n a → Ended 1 qs → Answers qs a → a ≡ taken_wide n
taken_wide_is n qs a p e h = taken_as_is 1 n _ qs a p.number p.ordinal p.values e h

pub taken_long_is : (n : ℕ) (qs : Questions) (a : Outcome) → PacksLong n a → Ended 2 qs → Answers qs a → a ≡ taken_long n
taken_long_is n qs a p e h = taken_as_is 2 n _ qs a p.number p.ordinal p.values e h

-- the lists of the calls; ask has that of place

pub open_ended : (W R N g words : ℕ) → Ended 0 (open_questions W R N g words)
open_ended W R N g words =
    more λ _. more λ _. more λ _. more λ _. more λ _.
    end λ vs e. ap length e

pub cover_ended : (o : List ℕ) (t R g words : ℕ) → Ended 1 (cover_questions o t R g words)
cover_ended o t R g words =
    more λ _. more λ _. more λ _. more λ _. more λ _.
    more λ _. more λ _. more λ _.
    end λ vs (g : (n : ℕ) × (vs ≡ n ∷ []) × RunsAre (cells_in R g o t) n). ap length g.1

pub place_ended : (s : List ℕ) (C : Cells) (o : List ℕ) (mask words : ℕ) → Ended 3 (place_questions s C o mask words)
unfolding place_questions Question5
place_ended s C o mask words =
    more λ _. more λ _. more λ _. more λ _. more λ _.
    more λ _. more λ _. more λ _. more λ _.
    end λ vs
    (g :
    (p : Position) × (vs ≡ p.turn ∷ p.column ∷ p.height ∷ []) ×
    Best (width_of s) (resolution_of s) (columns_of s) (gap_of s) C o mask p). ap length g.1

pub commit_ended : (s : List ℕ) (C : Cells) (o : List ℕ) (p : Position) (words : ℕ) → Ended 0 (commit_questions s C o p words)
unfolding commit_questions Question5
commit_ended s C o p words =
    more λ _. more λ _. more λ _. more λ _. more λ _.
    more λ _. more λ _. more λ _. more λ _.
    end λ vs e. ap length e

chain_ended : (k : ℕ) (b : List ℕ) (j : ℕ) (rs : List ℕ) (qs : Questions) → Ended k qs → Ended k (chain_questions b j rs qs)
unfolding chain_questions Question7Sheet
chain_ended k b j [] qs e = e
chain_ended k b j (r ∷ rs) qs e =
    more λ _. more λ _. more λ _. more λ _. more λ _.
    chain_ended k b (j + 1) rs qs e

list_ended : (k R j n : ℕ) (ws : List ℕ) (v : ℕ) (qs : ℕ → Questions) → ((v : ℕ) → Ended k (qs v)) →
    Ended k (list_questions R j n ws v qs)
unfolding list_questions
list_ended k R j zero ws v qs e = e v
list_ended k R j (suc n) ws v qs e =
    more λ _. more λ _. more λ _. more λ _. more λ _.
    list_ended k R (j + 1) n (after_piece ws) (v + get_or ws 0 0) qs e

pub read_ended : (b : List ℕ) (words : ℕ) → Ended 3 (read_questions b words)
unfolding read_questions Question6
read_ended b words =
    more λ _. more λ _. more λ _. more λ _. more λ _.
    more λ (q6 : Question6 b).
    chain_ended 3 b 1 q6.0 _ (more λ _. end λ vs e. ap length e)

pub write_ended : (W R N : ℕ) (ws : List ℕ) (bytes : ℕ) → Ended 1 (write_questions W R N ws bytes)
write_ended W R N ws bytes =
    more λ _. more λ _. more λ _. more λ _.
    list_ended 1 R 1 (get_or ws 0 0) (drop 1 ws) 0 _
    (λ v. more λ _. more λ _. end λ vs e. ap length e)

pub lay_ended : (b : List ℕ) (g strip out work : ℕ) → Ended 2 (lay_questions b g strip out work)
unfolding lay_questions_to Question4 Question6
lay_ended b g strip out work =
    more λ _. more λ _. more λ _. more λ _. more λ _. more λ _.
    more λ _. more λ (q6 : Question6 b).
    chain_ended 2 b 1 q6.0 _ (more λ _. end λ vs (g : LaidTotals b g work _ q6.0 vs). ap length g.values_are)

pub retrace_ended : (o : List ℕ) → Ended 2 (retrace_questions o)
retrace_ended o =
    more λ _. more λ _.
    end λ vs
    (g :
    ((vs ≡ 0 ∷ 0 ∷ []) × DrawnOnce o) ⊎ ((i : ℕ) × (j : ℕ) × (vs ≡ (i + 1) ∷ (j + 1) ∷ []) × FirstShared o i j)).
    ⊎_elim (λ h. ap length h.0) (λ h. ap length h.2) g

pub read_path_ended : (path : List ℕ) (words : ℕ) → Ended 1 (read_path_questions path words)
read_path_ended path words = more λ _. more λ _. more λ _. end λ vs e. ap length e

pub write_path_ended : (o : List ℕ) (bytes : ℕ) → Ended 1 (write_path_questions o bytes)
write_path_ended o bytes = more λ _. more λ _. more λ _. end λ vs e. ap length e
