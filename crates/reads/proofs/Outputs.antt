-- From the answers to read's questions, and from the stores, to the step of read.
-- Assumes nothing.
use mathlib.Core.Path.{◌≡◌, sym, ap, ◌∙◌}
use mathlib.Core.Bool.{Bool, true, false}
use mathlib.Core.List.{List, [], ◌∷◌, ◌++◌}
use Prim.Native.Nat.{ℕ, ◌+◌, ◌*◌, ◌≤◌, ◌<◌}
use native.Mathlib.Omega.{arith}
use native.Mathlib.Nat.{zero-add}
use lib.ListN.{length, drop, length-map}
use lib.Seq.{sets, sets-eq}
use borrow.Author.Tests.{lt-leb}
use Rattle.std.specs.Prelude.{Option, None, Result, Ok, Err, Some}
use Rattle.defs.specs.declared.Refusal.{Refusal}
use Rattle.defs.specs.declared.Figures.{Figures}
use Rattle.defs.specs.Meaning.Limits.{most_pieces}
use Rattle.defs.specs.Meaning.Sheet.{sheet_w, sheet_r, sheet_n, sheet_v, sheet_p, first_piece, piece_number, list_words}
use Rattle.defs.specs.Computing.Words.{limits_no}
use Rattle.defs.specs.Computing.Calls.{refusal}
use Rattle.defs.specs.Computing.Sheets.{q1b, q2b, piece_of, piece_records, sheet_pieces, sheet_piece_no, first_no, sheet_no, read_answer, read_output, ReadStep}
use Rattle.laws.proofs.Questions.{question_1, question_2, limits_none}
use Rattle.laws.proofs.Tests.{pos_not_zero, asked}
use Rattle.laws.proofs.Walks.{chain_few}
use Rattle.sheets.proofs.Asking.{not_zero, first_none}
use Rattle.sheets.proofs.Answers.{said, passed, figures_of, read_grants}
use Rattle.records.specs.Records.{PiecesIll}
use Rattle.cutlist.specs.Pieces.{VertexEnds, AllEnd, end_none, end_more, ChainEnds, PiecesRoom}
use Rattle.pieceno.specs.Refused.{FirstRefused}
use Rattle.reads.specs.Steps.{Begun, Counted, Passed, fourth_of, JobRefused}
use Rattle.limits.proofs.Passing.{none_no, some_no, same_refusal}
use Rattle.defs.specs.Computing.Calls.{passing}

-- what was read for 3, 16 and 17

pub figures_are : (b : List ℕ) {w r n : ℕ} → w ≡ sheet_w b → r ≡ sheet_r b → n ≡ sheet_n b →
    ◌≡◌ {A = Figures} (record { width = w; resolution = r; columns = n }) (figures_of b)
figures_are b e f g = rw (e, f, g)

pub limits_are : (b : List ℕ) (f : Figures) {a : Result Unit Refusal} → f ≡ figures_of b →
    a ≡ passing (limits_no f.width f.resolution f.columns) → a ≡ passing (limits_no (sheet_w b) (sheet_r b) (sheet_n b))
limits_are b f e h = h ∙ ap (λ (f : Figures). passing (limits_no f.width f.resolution f.columns)) e

pub begun_by : (b : List ℕ) {f : Figures} → q1b b ≡ true → q2b b ≡ true → f ≡ figures_of b →
    Ok tt ≡ passing (limits_no f.width f.resolution f.columns) → Begun b
begun_by b {f} e g h l = record { one = e; two = g; limits = none_no _ (limits_are b f h l) }

-- what the questions passed give

pub long : (b : List ℕ) → q1b b ≡ true → 16 ≤ length b
long b e = ((question_1 b).0 e).long

pub in_sheet : {b : List ℕ} → Begun b → 16 + 6 * (sheet_v b + sheet_p b) ≤ length b
in_sheet {b} s = omega (arith, ((question_2 b).0 s.two).fits)

pub resolution : {b : List ℕ} → Begun b → 1 ≤ sheet_r b
resolution {b} s = ((limits_none (sheet_w b) (sheet_r b) (sheet_n b)).0 s.limits).resolution.at_least

pub chain_ends : {b : List ℕ} {v count : ℕ} → Counted b count → v ≡ sheet_v b → ChainEnds b v
chain_ends s e = record { vertices = e; in_sheet = in_sheet s.begun; passes = s.six }

pub count_few : {b : List ℕ} {count : ℕ} → Counted b count → count ≤ most_pieces
unfolding piece_records
count_few {b} s = omega (arith, s.long, chain_few (λ r. piece_number b r 2) most_pieces (first_piece b))

pub count_is : {b : List ℕ} {count : ℕ} → Counted b count → count ≡ length (sheet_pieces b)
unfolding sheet_pieces
count_is {b} s = sym s.long ∙ sym (length-map (piece_records b) (piece_of b))

-- a piece that passes has a vertex chain that ends
piece_ends : (b : List ℕ) (r : ℕ) → sheet_piece_no b r ≡ 0 → VertexEnds b r
unfolding sheet_piece_no
piece_ends b r e = record { ends = (asked _ _ e not_zero).0 }

all_end : (b : List ℕ) (k : ℕ) (rs : List ℕ) → first_no (sheet_piece_no b) k rs ≡ None → AllEnd b rs
all_end b k [] e = end_none
all_end b k (r ∷ rs) e =
    let h = (first_none (sheet_piece_no b) k r rs).0 e in
    end_more (piece_ends b r h.0) (all_end b (k + 1) rs h.1)

pub each_ends : {b : List ℕ} {count : ℕ} → Passed b count → AllEnd b (piece_records b)
each_ends {b} s = all_end b 1 (piece_records b) s.none_no.is

pub pieces_room : {b out : List ℕ} {v count n : ℕ} → Passed b count → v ≡ sheet_v b → n ≡ length (list_words (sheet_pieces b)) → n ≤ length out →
    PiecesRoom b v out
pieces_room s v e h =
    record { chain = chain_ends s.counted v; all_end = each_ends s; room = omega arith }

-- the first "no"

pub no_1 : {b : List ℕ} (gap fourth : Bool) → q1b b ≡ false → JobRefused b gap fourth (refusal 1 0)
unfolding sheet_no
no_1 gap fourth e = record { is = rw e }

pub no_2 : {b : List ℕ} (gap fourth : Bool) → q1b b ≡ true → q2b b ≡ false → JobRefused b gap fourth (refusal 2 0)
unfolding sheet_no
no_2 gap fourth e f = record { is = rw (e, f) }

pub no_limits : {b : List ℕ} {r : Refusal} (gap fourth : Bool) → q1b b ≡ true → q2b b ≡ true → Err r ≡ passing (limits_no (sheet_w b) (sheet_r b) (sheet_n b)) →
    JobRefused b gap fourth r
unfolding sheet_no
no_limits {b} gap fourth e f g =
    let n = limits_no (sheet_w b) (sheet_r b) (sheet_n b) in
    let s = some_no n g in
    record { is = rw (e, f, pos_not_zero n s.0) (ap Some (sym (same_refusal s.1))) }

pub no_21 : {b : List ℕ} {gap : Bool} (fourth : Bool) → Begun b → gap ≡ false → JobRefused b gap fourth (refusal 21 0)
unfolding sheet_no
no_21 fourth s e = record { is = rw (s.one, s.two, s.limits, e) }

pub no_4 : {b : List ℕ} {gap fourth : Bool} → Begun b → gap ≡ true → fourth ≡ false → JobRefused b gap fourth (refusal 4 0)
unfolding sheet_no
no_4 s e f = record { is = rw (s.one, s.two, s.limits, e, f) }

pub no_6 : {b : List ℕ} → Begun b → PiecesIll b → JobRefused b true true (refusal 6 0)
unfolding sheet_no
no_6 s i = record { is = rw (s.one, s.two, s.limits, i.fails) }

pieces_no : {b : List ℕ} {count : ℕ} → Counted b count → sheet_no b true true ≡ first_no (sheet_piece_no b) 1 (piece_records b)
unfolding sheet_no
pieces_no s = rw (s.begun.one, s.begun.two, s.begun.limits, s.six)

pub no_piece : {b : List ℕ} {count : ℕ} {r : Refusal} → Counted b count → FirstRefused b r → JobRefused b true true r
no_piece s f = record { is = pieces_no s ∙ f.is }

pub no_none : {b : List ℕ} {count : ℕ} → Passed b count → sheet_no b true true ≡ None
no_none s = pieces_no s.counted ∙ s.none_no.is

-- the answer to 4, from the figures that were read
pub four_is : (b : List ℕ) (strip : Option (ℕ × ℕ)) {f : Figures} {t u : Bool} → f ≡ figures_of b → t ≡ fourth_of strip f.columns → t ≡ u →
    fourth_of strip (sheet_n b) ≡ u
four_is b strip e h k = ap (λ (f : Figures). fourth_of strip f.columns) (sym e) ∙ sym h ∙ k

-- the step

pub refused_step : {b out out' : List ℕ} {a : Result Figures Refusal} {r : Refusal} → a ≡ Err r → JobRefused b true true r →
    out' ≡ out → ReadStep b out a out'
unfolding read_answer read_output
refused_step {b} {out} e f g =
    record { answer = e ∙ sym (ap (said Err _) f.is); output = g ∙ ap (read_output b out) (sym e) }

pub step_15 : {b out out' : List ℕ} {count n : ℕ} {a : Result Figures Refusal} → Passed b count → n ≡ length (list_words (sheet_pieces b)) →
    length out < n → a ≡ Err (refusal 15 0) → out' ≡ out → ReadStep b out a out'
unfolding read_answer read_output
step_15 {b} {out} s e l r g =
    let ws = list_words (sheet_pieces b) in
    record {
      answer = r ∙ sym (passed Err (no_none s) ∙ rw (lt-leb (length ws) (length out) (omega arith)));
      output = g ∙ ap (read_output b out) (sym r);
    }

pub step_read : {b out out' : List ℕ} {count n : ℕ} {f : Figures} → Passed b count → n ≡ length (list_words (sheet_pieces b)) →
    n ≤ length out → out' ≡ sets out 0 (list_words (sheet_pieces b)) → f ≡ figures_of b → ReadStep b out (Ok f) out'
unfolding read_output
step_read {b} {out} s e l q ef =
    let ws = list_words (sheet_pieces b) in
    record {
      answer = ap Ok ef ∙ sym (read_grants b (length out) (no_none s) (omega arith));
      output = q ∙ sets-eq ws out 0 (omega arith) ∙ ap (λ (n : ℕ). ws ++ drop n out) (zero-add (length ws));
    }
