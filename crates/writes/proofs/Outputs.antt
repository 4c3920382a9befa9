-- From the answers to write's questions, and from the stores, to the step of write.
-- Assumes nothing.
use mathlib.Core.Path.{◌≡◌, sym, ap, ◌∙◌}
use mathlib.Core.Bool.{false}
use mathlib.Core.List.{List, ◌++◌}
use Prim.Native.Nat.{ℕ, zero, suc, ◌+◌, ◌*◌, ◌≤◌, ◌<◌}
use native.Mathlib.Omega.{arith}
use native.Mathlib.Nat.{zero-add}
use lib.Dec.{leb}
use lib.ListN.{length, get_or, drop}
use lib.Seq.{sets, sets-eq}
use borrow.Author.Tests.{le-leb, lt-leb}
use Rattle.std.specs.Prelude.{Some, None, Result, Ok, Err}
use Rattle.defs.specs.declared.Refusal.{Refusal}
use Rattle.defs.specs.Meaning.Limits.{most_bytes}
use Rattle.defs.specs.Computing.Words.{limits_no}
use Rattle.defs.specs.Computing.Calls.{refusal}
use Rattle.defs.specs.Computing.Sheets.{size_of, sheet_bytes, list_tails, list_pieces, list_piece_no, list_no, q6_listb, first_no, write_answer, write_output, WriteStep}
use Rattle.laws.proofs.Tests.{pos_not_zero}
use Rattle.laws.proofs.Questions.{limits_none, question_6_list}
use Rattle.sheets.proofs.Asking.{first_none}
use Rattle.sheets.proofs.ListBack.{complete}
use Rattle.sheets.proofs.SheetBack.{sheet_long}
use Rattle.sheets.proofs.Answers.{said, passed, write_grants}
use Rattle.recordbytes.specs.Fits.{Complete, no_piece, a_piece}
use Rattle.sheetbytes.specs.Sheets.{SheetFits}
use Rattle.lists.specs.Asked.{FirstRefused, first_refusal}
use Rattle.writes.specs.Steps.{Begun, Passed}
use Rattle.recordbytes.proofs.Tails.{tails_long}
use Rattle.limits.proofs.Passing.{some_no, same_refusal}
use Rattle.defs.specs.Computing.Calls.{passing}

-- 6

pub six_none : (list : List ℕ) → length list < 1 → false ≡ q6_listb list
unfolding q6_listb
six_none list h = rw (lt-leb 1 (length list) h)

pub six_is : (list : List ℕ) → 1 ≤ length list → leb (get_or list 0 0) 200 ≡ q6_listb list
unfolding q6_listb
six_is list h = rw (le-leb 1 (length list) h)

pub count_word : {W R N : ℕ} {list : List ℕ} → Begun W R N list → 1 ≤ length list
count_word {list = list} s = ((question_6_list list).0 s.six).count_word

pub count_few : {W R N : ℕ} {list : List ℕ} → Begun W R N list → get_or list 0 0 ≤ 200
count_few {list = list} s = ((question_6_list list).0 s.six).most

-- the first "no"

resolution : {W R N : ℕ} {list : List ℕ} → Begun W R N list → 1 ≤ R
resolution {W} {R} {N} s = ((limits_none W R N).0 s.limits).resolution.at_least

pub no_limits : (W R N : ℕ) (list : List ℕ) {r : Refusal} → Err r ≡ passing (limits_no W R N) → list_no W R N list ≡ Some r
unfolding list_no
no_limits W R N list e =
    let s = some_no (limits_no W R N) e in
    rw (pos_not_zero (limits_no W R N) s.0) (ap Some (sym (same_refusal s.1)))

pub no_6 : (W R N : ℕ) (list : List ℕ) → limits_no W R N ≡ 0 → q6_listb list ≡ false → list_no W R N list ≡ Some (refusal 6 0)
unfolding list_no
no_6 W R N list e f = rw (e, f)

pieces_no : {W R N : ℕ} {list : List ℕ} → Begun W R N list → list_no W R N list ≡ first_refusal R list
unfolding list_no
pieces_no s = rw (s.limits, s.six)

pub no_piece_of : {W R N : ℕ} {list : List ℕ} {r : Refusal} → Begun W R N list → FirstRefused list r → list_no W R N list ≡ Some r
no_piece_of {R = R} s f = pieces_no s ∙ f.every R (resolution s)

no_none : {W R N : ℕ} {list : List ℕ} {v : ℕ} → Passed W R N list v → list_no W R N list ≡ None
no_none {R = R} s = pieces_no s.begun ∙ s.none_no.every R (resolution s.begun)

-- the words of a list without a "no" are complete
all_complete : (R k n : ℕ) (ws : List ℕ) → first_no (list_piece_no R) k (list_tails n ws) ≡ None → Complete n ws
unfolding list_tails
all_complete R k zero ws e = no_piece
all_complete R k (suc n) ws e =
    let h = (first_none (list_piece_no R) k ws (list_tails n (drop (2 + 2 * get_or ws 0 0) ws))).0 e in
    a_piece (complete R ws h.0).whole.complete (all_complete R (k + 1) n (drop (2 + 2 * get_or ws 0 0) ws) h.1)

pub size_is : {W R N : ℕ} {list : List ℕ} {v : ℕ} → Passed W R N list v → 16 + 6 * (v + get_or list 0 0) ≡ size_of (list_pieces list)
unfolding list_pieces
size_is {list = list} s = omega (arith, s.none_no.vertices, tails_long (get_or list 0 0) (drop 1 list))

pub sheet_fits : {W R N : ℕ} {list out : List ℕ} {v : ℕ} → Passed W R N list v → 16 + 6 * (v + get_or list 0 0) ≤ length out →
    SheetFits list v out
unfolding list_pieces
sheet_fits {R = R} {list = list} s l =
    let few = s.none_no.few in
    let is = s.none_no.vertices in
    let count = count_few s.begun in
    record {
      some_words = count_word s.begun;
      list_fits =
          record {
            complete = all_complete R 1 (get_or list 0 0) (drop 1 list) (s.none_no.every R (resolution s.begun));
            in_out = omega arith;
            vertices_few = omega arith;
            pieces_few = omega arith;
          };
      vertices = s.none_no.vertices;
      room = l;
    }

-- the step

kept : {W R N : ℕ} {list out out' : List ℕ} {a : Result ℕ Refusal} {n k : ℕ} → a ≡ Err (refusal n k) →
    Err (refusal n k) ≡ write_answer W R N list (length out) → out' ≡ out → WriteStep W R N list out a out'
unfolding write_output
kept {W} {R} {N} {list} {out} e f g = record { answer = e ∙ f; output = g ∙ ap (write_output W R N list out) (sym e) }

pub refused_step : {W R N : ℕ} {list out out' : List ℕ} {a : Result ℕ Refusal} {r : Refusal} → a ≡ Err r →
    list_no W R N list ≡ Some r → out' ≡ out → WriteStep W R N list out a out'
unfolding write_answer
refused_step {list = list} {out = out} e f g = kept e (sym (ap (said Err _) f)) g

module _ {W R N : ℕ} {list : List ℕ} {v n : ℕ} (s : Passed W R N list v) (e : n ≡ 16 + 6 * (v + get_or list 0 0)) where
  size : n ≡ size_of (list_pieces list)
  size = e ∙ size_is s

  pub step_2 : {a : Result ℕ Refusal} {out out' : List ℕ} → most_bytes < n → a ≡ Err (refusal 2 0) → out' ≡ out → WriteStep W R N list out a out'
  unfolding write_answer
  step_2 {out = out} l r g =
      kept r (sym (passed Err (no_none s) ∙ rw (lt-leb (size_of (list_pieces list)) most_bytes (omega (arith, size))))) g

  pub step_15 : {a : Result ℕ Refusal} {out out' : List ℕ} → n ≤ most_bytes → length out < n → a ≡ Err (refusal 15 0) → out' ≡ out →
      WriteStep W R N list out a out'
  unfolding write_answer
  step_15 {out = out} m l r g =
      kept r
      (sym (passed Err (no_none s) ∙
      rw (le-leb (size_of (list_pieces list)) most_bytes (omega (arith, size)), lt-leb (size_of (list_pieces list)) (length out) (omega (arith, size))))) g

  pub step_written : {out out' : List ℕ} → n ≤ most_bytes → n ≤ length out → out' ≡ sets out 0 (sheet_bytes W R N (list_pieces list)) →
      WriteStep W R N list out (Ok n) out'
  unfolding write_output
  step_written {out} m l q =
      let b = sheet_bytes W R N (list_pieces list) in
      let long : length b ≡ n = sheet_long W R N (list_pieces list) ∙ sym size in
      record {
        answer =
            ap Ok size ∙
            sym (write_grants W R N list (length out) (no_none s) (omega (arith, size)) (omega (arith, size)));
        output = q ∙ sets-eq b out 0 (omega (arith, long)) ∙ ap (λ (k : ℕ). b ++ drop k out) (zero-add (length b) ∙ long);
      }
