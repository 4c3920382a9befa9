-- Open, cover and place answer the first "no" in document 01's order.
-- Assumes nothing.
use mathlib.Core.Path.{◌≡◌, refl, sym, subst}
use mathlib.Core.Logic.{⊎_elim, ◌≢◌}
use mathlib.Core.Bool.{true}
use mathlib.Core.List.{List, [], ◌∷◌}
use Prim.Native.Nat.{ℕ, ◌^◌, ◌≤◌, ◌<◌}
use lib.Dec.{leb}
use lib.ListN.{length}
use Rattle.std.specs.Prelude.{Option, Some, None, Result, Ok, Err}
use Rattle.defs.specs.declared.Refusal.{Refusal}
use Rattle.defs.specs.declared.Position.{Position}
use Rattle.defs.specs.Answer.{opening, covering, placing, asking, committing}
use Rattle.defs.specs.Meaning.Limits.{most_turn}
use Rattle.defs.specs.Meaning.Outline.{sides, KeepsOrder}
use Rattle.defs.specs.Meaning.Turn.{turned}
use Rattle.defs.specs.Meaning.Cell.{Cells}
use Rattle.defs.specs.Meaning.Strip.{Holds, width_of, resolution_of, columns_of, gap_of}
use Rattle.defs.specs.Meaning.Placing.{Best, cells_in}
use Rattle.defs.specs.Meaning.Question.{Question5, Question7, Question9, Question9Turn, Question10, Question13, Question14, Question18}
use Rattle.defs.specs.Computing.Test.{ask}
use Rattle.defs.specs.Computing.Cells.{Rows, piece_runs, count_runs}
use Rattle.defs.specs.Computing.Words.{lengthb, resolutionb, gapb, well_formedb, columns_runs}
use Rattle.defs.specs.Computing.Search.{best_below}
use Rattle.defs.specs.Computing.Calls.{refusal, q9b, q12b, q14b, q18b, open_answer, cover_answer, choose, place_on, place_answer, ask_answer, commit_on, commit_answer}
use Rattle.laws.proofs.Tests.{Decides, decides_by}
use Rattle.laws.proofs.Questions.{question_16, question_21, question_4, question_7, question_9, question_9_turn, records_are}
use Rattle.laws.proofs.Complete.{question_5}
use Rattle.laws.proofs.Order.{later_irreflexive, later_transitive, same_or_not}
use Rattle.laws.proofs.Formed.{formed}
use Rattle.geom.proofs.Checks.{question_12, has_side, runs_of_turn}
use Rattle.tables.proofs.Tables.{Table, In}
use Rattle.tables.proofs.Sets.{Same, same_sym, best_same, q13_same, q14_same, q18_same}
use Rattle.tables.proofs.FreeTest.{question_18}
use Rattle.tables.proofs.Held.{table_of_lem, holds_table}
use Rattle.tables.proofs.Searching as searching
use Rattle.tables.proofs.Records as records
use Rattle.claims.specs.Numbers.{asks, grants, Answers, RunsAre, open_questions, cover_questions, fate_questions, place_questions, ask_questions, commit_questions}
use Rattle.turns.proofs.Alone.{allows_own}
use Rattle.claims.proofs.Asked.{gets_no, gets_yes, is_granted, step, figures_asked, outline_asked}

pub open_answers : (W R N g words : ℕ) → Answers (open_questions W R N g words) (opening (open_answer W R N g words))
unfolding open_answer
open_answers W R N g words =
    figures_asked opening Err (λ n k. refl) W R N g _ _
    (step opening (lengthb N words) _ (Err (refusal 4 0)) (Ok tt) 4 0 _ refl (question_4 N words)
    (λ _. is_granted _ (opening (Ok tt)) refl refl refl))

keeps_order : (o : List ℕ) (t : ℕ) → t ≤ 3 → Question10 o (2 ^ t) → KeepsOrder (turned o t)
unfolding Question10
keeps_order o t h q = q t (allows_own t h)

runs_are : (o : List ℕ) (t R g : ℕ) → KeepsOrder (turned o t) → 0 < sides o → 1 ≤ R →
    RunsAre (cells_in R g o t) (count_runs (piece_runs o t R g))
runs_are o t R g keeps side Rpos m = let d = runs_of_turn o t R g keeps side Rpos m in (d.1, d.0)

pub cover_answers : (o : List ℕ) (t R g words : ℕ) → Answers (cover_questions o t R g words) (covering (cover_answer o t R g words))
unfolding cover_answer
cover_answers o t R g words =
    step covering (resolutionb R) _ (Err (refusal 16 0)) _ 16 0 _ refl (question_16 R)
    (λ q16.
    step covering (gapb g) _ (Err (refusal 21 0)) _ 21 0 _ refl (question_21 g)
    (λ _.
    outline_asked covering Err (λ n k. refl) true (leb t most_turn) o (2 ^ t) R 1 q16.at_least (Question7 o) (Question9Turn t)
    (λ _. o) (question_7 o) (λ q7. q7) (λ _. refl) (question_9_turn t) _ _
    (λ q7 q9 q10.
    step covering (q12b o (2 ^ t) R g words) _ (Err (refusal 12 1)) (Ok (count_runs (piece_runs o t R g))) 12 1 _ refl
    (question_12 o (2 ^ t) R q10 (has_side o q7) q16.at_least g words)
    (λ _.
    is_granted _ (covering (Ok (count_runs (piece_runs o t R g)))) refl refl
    (count_runs (piece_runs o t R g), refl, runs_are o t R g (keeps_order o t q9 q10) (has_side o q7) q16.at_least)))))

-- a strip that holds these runs, which are the cells C
module _
    (W R N g Q : ℕ)
    (held : List (List Rows))
    (C : Cells)
    (same : Same (In held) C)
    (table : Table W N held)
    (Rpos : 1 ≤ R)
    (o : List ℕ)
    (mask words : ℕ) where
  module _ (q7 : Question7 o) (q10 : Question10 o mask) where
    pub best_is : (p : Position) → best_below W R N g held o mask 4 ≡ Some p → Best W R N g C o mask p
    best_is p e = best_same _ _ same W R N g o mask p (searching.best_found W R N g held o mask q10 (has_side o q7) Rpos table p e)

    only_one : (p q : Position) → Best W R N g C o mask p → Best W R N g C o mask q → p ≡ q
    only_one p q a b =
        ⊎_elim (λ (e : p ≡ q). e)
        (λ (n : p ≢ q).
        absurd
        (later_irreflexive R o p
        (later_transitive R o p q p (a.first q b.fits (λ e. n (sym e))) (b.first p a.fits n))))
        (same_or_not p q)

    pub fourteen : (p : Position) → best_below W R N g held o mask 4 ≡ Some p →
        Decides (q14b W R g Q held o p) ((q : Position) → Best W R N g C o mask q → Question14 W R N g Q C o q)
    unfolding Question10
    fourteen p e =
        let b = searching.best_found W R N g held o mask q10 (has_side o q7) Rpos table p e in
        decides_by
        (λ a q best.
        subst (λ (x : Position). Question14 W R N g Q C o x) (only_one p q (best_is p e) best) (q14_same _ _ same W R N g Q o p a))
        (λ f. q14_same _ _ (same_sym same) W R N g Q o p (f p (best_is p e)))
        (records.question_14 W R N g Q held o p (q10 p.turn b.fits.allowed) (has_side o q7) Rpos table)

    chosen : (r : Option Position) → best_below W R N g held o mask 4 ≡ r →
        Answers
        (asks 13 1 (Question13 W R N g C o mask) λ _.
        asks 14 1 ((p : Position) → Best W R N g C o mask p → Question14 W R N g Q C o p) λ _.
        grants λ values. (p : Position) × (values ≡ p.turn ∷ p.column ∷ p.height ∷ []) × Best W R N g C o mask p)
        (placing (choose W R g Q held o r))
    unfolding choose Question13
    chosen None e =
        gets_no 13 1 _ _ (placing (Err (refusal 13 1)))
        (λ q. searching.none_found W R N g held o mask q10 (has_side o q7) Rpos table e (q13_same _ _ (same_sym same) W R N g o mask q))
        refl
    chosen (Some p) e =
        gets_yes 13 1 _ _ (placing (ask (q14b W R g Q held o p) (Err (refusal 14 1)) λ _. Ok p)) (p, (best_is p e).fits)
        (λ _.
        step placing (q14b W R g Q held o p) _ (Err (refusal 14 1)) (Ok p) 14 1 _ refl (fourteen p e)
        (λ _. is_granted _ (placing (Ok p)) refl refl (p, refl, best_is p e)))

    fate_answers :
        Answers (fate_questions W R N g Q C o mask words)
        (placing (ask (q12b o mask R g words) (Err (refusal 12 1)) λ _. choose W R g Q held o (best_below W R N g held o mask 4)))
    fate_answers =
        step placing (q12b o mask R g words) _ (Err (refusal 12 1)) _ 12 1 _ refl
        (question_12 o mask R q10 (has_side o q7) Rpos g words)
        (λ _. chosen (best_below W R N g held o mask 4) refl)

-- one strip, of which the cells C are those that it holds
runs_same : (s : List ℕ) (C : Cells) → well_formedb s ≡ true → Same (Holds s) C → Same (In (columns_runs s)) C
runs_same s C w holds i j = (λ h. (holds i j).0 ((holds_table s w i j).1 h), λ c. (holds_table s w i j).0 ((holds i j).1 c))

pub place_answers : (s : List ℕ) (C : Cells) → (well_formedb s ≡ true → Same (Holds s) C) → (o : List ℕ) (mask words : ℕ) →
    Answers (place_questions s C o mask words) (placing (place_answer s o mask words))
unfolding place_answer place_on place_questions Question5
place_answers s C holds o mask words =
    step placing (well_formedb s) _ (Err (refusal 5 0)) _ 5 0 _ refl (question_5 s)
    (λ q5.
    let w = (question_5 s).1 q5 in
    let Rpos = (formed s w).limits.resolution.at_least in
    outline_asked placing Err (λ n k. refl) true (q9b mask) o mask (resolution_of s) 1 Rpos (Question7 o) (Question9 mask)
    (λ _. o) (question_7 o) (λ q7. q7) (λ _. refl) (question_9 mask) _ _
    (λ q7 _ q10.
    rw (records_are (columns_of s) q5.0 (length s) q5.1.long)
    (fate_answers (width_of s) (resolution_of s) (columns_of s) (gap_of s) q5.0 (columns_runs s) C
    (runs_same s C w (holds w)) (table_of_lem s w) Rpos o mask words q7 q10)))

-- an ask's outcome is that of the place call
shown_outcome : (a : Result Position Refusal) → placing a ≡ asking a
shown_outcome (Ok p) = refl
shown_outcome (Err r) = refl

pub ask_answers : (s : List ℕ) (C : Cells) → (well_formedb s ≡ true → Same (Holds s) C) → (o : List ℕ) (mask words : ℕ) →
    Answers (ask_questions s C o mask words) (asking (ask_answer s o mask words))
unfolding ask_answer
ask_answers s C holds o mask words =
    subst (Answers (ask_questions s C o mask words)) (shown_outcome (place_answer s o mask words)) (place_answers s C holds o mask words)

-- 18 and 14 at one position of a strip that holds these runs, which are the cells C
module _
    (W R N g Q : ℕ)
    (held : List (List Rows))
    (C : Cells)
    (same : Same (In held) C)
    (table : Table W N held)
    (Rpos : 1 ≤ R)
    (o : List ℕ)
    (p : Position)
    (keeps : KeepsOrder (turned o p.turn))
    (side : 0 < sides o) where
  eighteen : Decides (q18b W R N g held o p) (Question18 W R N g C o p)
  eighteen =
      decides_by (λ q. q18_same _ _ same W R N g o p q) (λ q. q18_same _ _ (same_sym same) W R N g o p q)
      (question_18 W R N g held o p keeps side Rpos table)

  fourteen_at : Decides (q14b W R g Q held o p) (Question14 W R N g Q C o p)
  fourteen_at =
      decides_by (λ q. q14_same _ _ same W R N g Q o p q) (λ q. q14_same _ _ (same_sym same) W R N g Q o p q)
      (records.question_14 W R N g Q held o p keeps side Rpos table)

pub commit_answers : (s : List ℕ) (C : Cells) → (well_formedb s ≡ true → Same (Holds s) C) → (o : List ℕ) (p : Position) (words : ℕ) →
    Answers (commit_questions s C o p words) (committing (commit_answer s o p words))
unfolding commit_answer commit_on commit_questions Question5
commit_answers s C holds o p words =
    step committing (well_formedb s) _ (Err (refusal 5 0)) _ 5 0 _ refl (question_5 s)
    (λ q5.
    let w = (question_5 s).1 q5 in
    let Rpos = (formed s w).limits.resolution.at_least in
    let same = runs_same s C w (holds w) in
    outline_asked committing Err (λ n k. refl) true (leb p.turn most_turn) o (2 ^ p.turn) (resolution_of s) 1 Rpos
    (Question7 o) (Question9Turn p.turn) (λ _. o) (question_7 o) (λ q7. q7) (λ _. refl) (question_9_turn p.turn) _ _
    (λ q7 q9 q10.
    rw (records_are (columns_of s) q5.0 (length s) q5.1.long)
    (step committing (q12b o (2 ^ p.turn) (resolution_of s) (gap_of s) words) _ (Err (refusal 12 1)) _ 12 1 _ refl
    (question_12 o (2 ^ p.turn) (resolution_of s) q10 (has_side o q7) Rpos (gap_of s) words)
    (λ _.
    step committing (q18b (width_of s) (resolution_of s) (columns_of s) (gap_of s) (columns_runs s) o p) _ (Err (refusal 18 0)) _
    18 0 _ refl
    (eighteen (width_of s) (resolution_of s) (columns_of s) (gap_of s) q5.0 (columns_runs s) C same (table_of_lem s w) Rpos o p
    (keeps_order o p.turn q9 q10) (has_side o q7))
    (λ _.
    step committing (q14b (width_of s) (resolution_of s) (gap_of s) q5.0 (columns_runs s) o p) _ (Err (refusal 14 1)) (Ok tt)
    14 1 _ refl
    (fourteen_at (width_of s) (resolution_of s) (columns_of s) (gap_of s) q5.0 (columns_runs s) C same (table_of_lem s w) Rpos o p
    (keeps_order o p.turn q9 q10) (has_side o q7))
    (λ _. is_granted _ (committing (Ok tt)) refl refl refl))))))
