-- Each call of a list answers the first "no" against the pieces placed before it; of a laid job 12 to 14 are the fates of its pieces.
-- Assumes nothing.
use mathlib.Core.Path.{◌≡◌, sym, ap, subst, ◌∙◌}
use mathlib.Core.List.{List, []}
use Prim.Native.Nat.{ℕ, zero, suc, ◌≤◌, ◌<◌}
use native.Mathlib.Omega.{arith}
use lib.ListN.{length, get_or}
use Rattle.std.specs.Prelude.{Result, Ok}
use Rattle.defs.specs.declared.Position.{Position}
use Rattle.defs.specs.declared.Refusal.{Refusal}
use Rattle.defs.specs.declared.Totals.{Totals}
use Rattle.defs.specs.Answer.{Outcome, placing, asking, committing}
use Rattle.defs.specs.Meaning.Cell.{Cells}
use Rattle.defs.specs.Meaning.Strip.{Length, WellFormed, Holds, width_of, resolution_of, columns_of, gap_of}
use Rattle.defs.specs.Meaning.Sheet.{Piece, sheet_w, sheet_r, sheet_n}
use Rattle.defs.specs.Meaning.Question.{Question5, Question7, Question8, Question9, Question10, Question11}
use Rattle.defs.specs.Computing.Calls.{q9b}
use Rattle.defs.specs.Computing.Lay.{LayStep}
use Rattle.laws.proofs.Questions.{question_7, question_8, question_9, records_are}
use Rattle.geom.proofs.Checks.{none_no_is, question_10, question_11, has_side}
use Rattle.sheets.proofs.PiecesBack.{Each, nothing_left, and_more}
use Rattle.sheets.proofs.Asking.{PiecePasses}
use Rattle.sheets.proofs.Passing.{Held, holds_pieces}
use Rattle.tables.proofs.Sets.{Same}
use Rattle.claims.specs.Trace.{Call, place_call, ask_call, commit_call, Step, Calls, Trace, Occupied}
use Rattle.claims.specs.Demand3.{Demand3, Demand3_holds}
use Rattle.claims.specs.Places.{PlaceCalls, PlaceTrace, PlacedCells, PlaceDemand3, PlaceDemand3_holds}
use Rattle.claims.specs.Laying.{LaysList}
use Rattle.claims.specs.Numbers.{Answers, fate_questions, place_questions, ask_questions, commit_questions, call_questions, outcome_in}
use Rattle.claims.proofs.Whole.{demand3_holds}
use Rattle.claims.proofs.PlaceLists.{place_demand3_holds}
use Rattle.claims.proofs.LayList.{lay_granted}
use Rattle.claims.proofs.Asked.{after_yes}
use Rattle.claims.proofs.OutlineNumbers.{place_answers, ask_answers, commit_answers}

of_list : {W R N g : ℕ} {x : Calls} → Trace W R N g x → Demand3 W R N g x
unfolding Demand3_holds
of_list {W} {R} {N} {g} {x} t = demand3_holds W R N g x t

-- each call, on a strip that holds the cells C
call_answers : (s s' : List ℕ) (C : Cells) → Same (Holds s) C → (c : Call) → Step c s s' → Answers (call_questions s C c) (outcome_in c)
unfolding Step call_questions outcome_in
call_answers s s' C same (place_call c) t =
    subst (λ (a : Result Position Refusal). Answers (place_questions s C c.outline c.mask (length c.work)) (placing a)) (sym t.answer)
    (place_answers s C (λ _. same) c.outline c.mask (length c.work))
call_answers s s' C same (ask_call c) t =
    subst (λ (a : Result Position Refusal). Answers (ask_questions s C c.outline c.mask (length c.work)) (asking a)) (sym t.answer)
    (ask_answers s C (λ _. same) c.outline c.mask (length c.work))
call_answers s s' C same (commit_call c) t =
    subst (λ (a : Result Unit Refusal). Answers (commit_questions s C c.outline c.at (length c.work)) (committing a)) (sym t.answer)
    (commit_answers s C (λ _. same) c.outline c.at (length c.work))

pub list_answers_lem : {W R N g : ℕ} {x : Calls} → Trace W R N g x → (m : ℕ) → m < x.count →
    Answers (call_questions (x.strip m) (Occupied W R N g x.call m) (x.call m)) (outcome_in (x.call m))
list_answers_lem {W} {R} {N} {g} {x} t m h =
    call_answers (x.strip m) (x.strip (suc m)) (Occupied W R N g x.call m) ((of_list t).strip_is m (omega arith)).holds (x.call m)
    (t.step m h)

-- a list of place calls alone
of_places : {W R N g : ℕ} {x : PlaceCalls} → PlaceTrace W R N g x → PlaceDemand3 W R N g x
unfolding PlaceDemand3_holds
of_places {W} {R} {N} {g} {x} t = place_demand3_holds W R N g x t

places_answers : {W R N g : ℕ} {x : PlaceCalls} → PlaceTrace W R N g x → (m : ℕ) → m < x.count →
    Answers
    (place_questions (x.strip m) (PlacedCells W R N g x.call m) (x.call m).outline (x.call m).mask (length (x.call m).work))
    (placing (x.call m).answer)
places_answers {W} {R} {N} {g} {x} t m h =
    subst
    (λ (a : Result Position Refusal).
    Answers
    (place_questions (x.strip m) (PlacedCells W R N g x.call m) (x.call m).outline (x.call m).mask (length (x.call m).work))
    (placing a))
    (sym (t.place_step m h).answer)
    (place_answers (x.strip m) (PlacedCells W R N g x.call m) (λ _. ((of_places t).strip_is m (omega arith)).holds) (x.call m).outline
    (x.call m).mask (length (x.call m).work))

-- 7 to 11 of a piece that passes them
record Asked7to11 (o : List ℕ) (mask R : ℕ) : Type 0 where
  q7 : Question7 o
  q8 : Question8 o
  q9 : Question9 mask
  q10 : Question10 o mask
  q11 : Question11 o mask R

passed : (R : ℕ) → 1 ≤ R → (p : Piece) → PiecePasses R p → Asked7to11 p.outline p.mask R
passed R Rpos p s =
    let e = (none_no_is p.outline (q9b p.mask) p.mask R).0 s.no in
    let q7 = (question_7 p.outline).0 e.0 in
    let q10 = (question_10 p.outline p.mask).0 e.3 in
    record {
      q7 = q7;
      q8 = (question_8 p.outline).0 e.1;
      q9 = (question_9 p.mask).0 e.2;
      q10 = q10;
      q11 = (question_11 p.outline p.mask R q10 (has_side p.outline q7) Rpos).0 e.4;
    }

each_at : {P : Piece → Type 0} {ps : List Piece} (d : Piece) → Each P ps → (m : ℕ) → m < length ps → P (get_or ps m d)
each_at d nothing_left m h = absurd (omega arith)
each_at d (and_more s ss) zero h = s
each_at d (and_more s ss) (suc m) h = each_at d ss m (omega arith)

-- where 5 and 7 to 11 get "yes", the answer is that of 12 to 14
fate_left : (s : List ℕ) (C : Cells) (o : List ℕ) (mask words Q : ℕ) (a : Outcome) → Answers (place_questions s C o mask words) a →
    WellFormed s Q → Asked7to11 o mask (resolution_of s) →
    Answers (fate_questions (width_of s) (resolution_of s) (columns_of s) (gap_of s) Q C o mask words) a
unfolding place_questions Question5
fate_left s C o mask words Q a h w q =
    after_yes 11 1 _ _ a
    (after_yes 10 1 _ _ a
    (after_yes 9 1 _ _ a (after_yes 8 1 _ _ a (after_yes 7 1 _ _ a (after_yes 5 0 _ _ a h (Q, w)) q.q7) q.q8) q.q9) q.q10)
    q.q11

fate_same : {W W' R R' N N' g g' words words' : ℕ} (Q : ℕ) (C : Cells) (o : List ℕ) (mask : ℕ) (a : Outcome) →
    W ≡ W' → R ≡ R' → N ≡ N' → g ≡ g' → words ≡ words' →
    Answers (fate_questions W R N g Q C o mask words) a → Answers (fate_questions W' R' N' g' Q C o mask words') a
fate_same Q C o mask a ew er en eg el h = rw (← ew, ← er, ← en, ← eg, ← el) h

module _ {b : List ℕ} {g : ℕ} {s out work : List ℕ} {t : Totals} {s' out' work' : List ℕ}
    (x : LayStep b g s out work (Ok t) s' out' work')
    (l : LaysList b g s t s' out' work) (Q : ℕ) (long : Length (sheet_n b) Q (length s)) (m : ℕ) (h : m < length l.pieces) where
  held : Held b
  held = (lay_granted b g (length s) (length out) (length work) t x.answer).held

  d : PlaceDemand3 (sheet_w b) (sheet_r b) (sheet_n b) g l.list
  d = of_places l.steps

  in_list : m < l.list.count
  in_list = omega (arith, l.all_of_them)

  Q_is : d.Q ≡ Q
  Q_is =
      sym
      (records_are (sheet_n b) d.Q (length s)
      (subst (λ (n : ℕ). Length (sheet_n b) d.Q n) (ap length l.opens) d.opened_with)) ∙
      records_are (sheet_n b) Q (length s) long

  passes : PiecePasses (sheet_r b) (get_or l.pieces m (record { mask = 0; outline = [] }))
  passes =
      each_at (record { mask = 0; outline = [] })
      (subst (Each (PiecePasses (sheet_r b))) (holds_pieces l.sheet) held.passes) m h

  asked : Asked7to11 (l.list.call m).outline (l.list.call m).mask (sheet_r b)
  asked = rw (l.outlines m h, l.masks m h) (passed (sheet_r b) l.sheet.limits.resolution.at_least _ passes)

  pub lay_fate :
      Answers
      (fate_questions (sheet_w b) (sheet_r b) (sheet_n b) g Q (PlacedCells (sheet_w b) (sheet_r b) (sheet_n b) g l.list.call m)
      (l.list.call m).outline (l.list.call m).mask (length work))
      (placing (l.list.call m).answer)
  lay_fate =
      let i = d.strip_is m (omega (arith, in_list)) in
      fate_same Q (PlacedCells (sheet_w b) (sheet_r b) (sheet_n b) g l.list.call m) (l.list.call m).outline (l.list.call m).mask
      (placing (l.list.call m).answer) i.width i.resolution i.columns i.gap (l.works m h)
      (fate_left (l.list.strip m) _ (l.list.call m).outline (l.list.call m).mask (length (l.list.call m).work) Q
      (placing (l.list.call m).answer) (places_answers l.steps m in_list)
      (subst (WellFormed (l.list.strip m)) Q_is i.well_formed)
      (rw i.resolution asked))
