-- From lay's answer to the text, and which strip serves for it.
-- Assumes nothing.
use mathlib.Core.Path.{◌≡◌, refl, sym, ap, ◌∙◌}
use mathlib.Core.Bool.{Bool, true}
use mathlib.Core.List.{List, [], ◌∷◌, ◌++◌}
use Prim.Native.Nat.{ℕ, ◌+◌, ◌*◌, ◌≤◌}
use native.Mathlib.Omega.{arith}
use lib.Dec.{eqb}
use lib.ListN.{length, take, drop, length-append, length-map}
use lib.Seq.{sets-eq, take_at, length-take-le}
use Rattle.std.specs.Prelude.{Some, None, Result, Ok, Err}
use Rattle.defs.specs.declared.Refusal.{Refusal}
use Rattle.defs.specs.declared.Totals.{Totals}
use Rattle.defs.specs.declared.Figures.{Figures}
use Rattle.defs.specs.Meaning.Limits.{most_pieces}
use Rattle.defs.specs.Meaning.Sheet.{sheet_w, sheet_r, sheet_n}
use Rattle.defs.specs.Computing.Ascii.{ascii}
use Rattle.defs.specs.Computing.Words.{gapb, limits_no, lengthb}
use Rattle.defs.specs.Computing.Sheets.{q1b, q2b, q6b, piece_of, piece_records, sheet_pieces, sheet_no}
use Rattle.defs.specs.Computing.Lay.{entries_words, lay_entries, lay_answer, lay_output, LayStep}
use Rattle.defs.specs.Computing.Text.{spaced, line, entry_lines, program_strip, program_work, totals_line, lay_text}
use Rattle.laws.proofs.Tests.{asked}
use Rattle.laws.proofs.Questions.{question_2}
use Rattle.sheets.proofs.Asking.{some_none}
use Rattle.sheets.proofs.Passing.{few_read}
use Rattle.sheets.proofs.Answers.{said, figures_of, not_refused}
use Rattle.words.specs.Put.{Put}
use Rattle.layout.specs.Lines.{entries_lines, laid_lines, LaidFits}
use Rattle.lent.specs.Strips.{StripFor, exact, early, StripWords}
use Rattle.text.specs.Lent.{Answered, Passes, Shows}
use Rattle.print.proofs.Puts.{put_long, spaced_few}
use Rattle.layout.proofs.Lines.{strip_few, lines_few, totals_few}
use Rattle.layout.proofs.Entries.{job_words, job_lines}

-- the first n words of the greatest strip
module _ (s : List ℕ) {b : List ℕ} {n : ℕ} (w : StripWords b n) (l : length s ≡ 20101) where
  pub part_long : length (take n s) ≡ n
  part_long = length-take-le n s (omega (arith, w.few))

  pub part_serves : StripFor b (length (take n s))
  part_serves = rw part_long w.serves

-- the answer

lay_refused : {t : Totals} (r : Refusal) → ¬ (Err r ≡ Ok t)
lay_refused r e = let z : ◌≡◌ {A = ℕ} 0 1 = cc in omega arith

-- the first "no" decides the answer
answer_no : (b : List ℕ) (strip out work : ℕ) (r : Refusal) → sheet_no b true (lengthb (sheet_n b) strip) ≡ Some r →
    lay_answer b 0 strip out work ≡ Err r
unfolding lay_answer gapb
answer_no b strip out work r e = ap (said Err _) e

same_answer : {b : List ℕ} {n : ℕ} (out work : ℕ) → StripFor b n → lay_answer b 0 n out work ≡ lay_answer b 0 (program_strip b) out work
same_answer {b} out work (exact e) = ap (λ (n : ℕ). lay_answer b 0 n out work) e
same_answer {b} {n} out work (early r h) =
    answer_no b n out work r (h (lengthb (sheet_n b) n)) ∙
    sym (answer_no b (program_strip b) out work r (h (lengthb (sheet_n b) (program_strip b))))

-- a job that is laid has the strip that it is to have
laid_strip : {b : List ℕ} {n : ℕ} (out work : ℕ) {t : Totals} → StripFor b n → Ok t ≡ lay_answer b 0 n out work → n ≡ program_strip b
laid_strip out work (exact e) l = e
laid_strip {b} {n} out work (early r h) l =
    absurd (lay_refused r (sym (answer_no b n out work r (h (lengthb (sheet_n b) n))) ∙ sym l))

pub answered : {b s out work s' out' work' : List ℕ} {a : Result Totals Refusal} → LayStep b 0 s out work a s' out' work' →
    StripFor b (length s) → length out ≡ 4 * most_pieces → length work ≡ program_work → Answered b out' a
unfolding lay_output
answered {b} {s} {out} {work} {out' = out'} {a = a} x strip o w =
    record {
      rest = drop (length (entries_words (lay_entries b 0 (program_strip b) program_work))) out;
      answer = x.answer ∙ rw (o, w) (same_answer (4 * most_pieces) program_work strip);
      output = λ t e. words t e (laid_strip (length out) (length work) strip (sym e ∙ x.answer));
    }
  where
    words : (t : Totals) → a ≡ Ok t → length s ≡ program_strip b →
        out' ≡
        entries_words (lay_entries b 0 (program_strip b) program_work) ++
        drop (length (entries_words (lay_entries b 0 (program_strip b) program_work))) out
    words t e f = rw (f, w, e) at x.output

-- a sheet whose job is laid passes its questions
pub passes : {b : List ℕ} (fourth : Bool) → sheet_no b true fourth ≡ None → Passes b
unfolding sheet_no
passes {b} fourth e =
    let e1 = asked (q1b b) _ e some_none in
    let e2 = asked (q2b b) _ e1.1 some_none in
    let e3 = asked (eqb (limits_no (sheet_w b) (sheet_r b) (sheet_n b)) 0) _ e2.1 some_none in
    let e4 = asked fourth _ e3.1 some_none in
    let e6 = asked (q6b b) _ e4.1 some_none in
    record { two = ((question_2 b).0 e2.0).fits; six = e6.0 }

pub laid_passes : {b ws : List ℕ} {t : Totals} → Answered b ws (Ok t) → Passes b
unfolding lay_answer gapb
laid_passes {b} s =
    let fourth = lengthb (sheet_n b) (program_strip b) in
    passes fourth (not_refused (sheet_no b true fourth) (sym s.answer) lay_refused).0

pieces_long : (b : List ℕ) → length (sheet_pieces b) ≡ length (piece_records b)
unfolding sheet_pieces
pieces_long b = length-map (piece_records b) (piece_of b)

-- the text

abbrev printed : List ℕ → Result Totals Refusal → List ℕ
printed b a =
    elim a [
      | Ok t ↦
          line "strip" (sheet_w b ∷ sheet_r b ∷ sheet_n b ∷ []) ++
          (entry_lines (lay_entries b 0 (program_strip b) program_work) ++ totals_line t)
      | Err r ↦ line "job refused" (r.number ∷ r.ordinal ∷ [])
    ]

text_is : {b ws : List ℕ} {a : Result Totals Refusal} → Answered b ws a → printed b a ≡ lay_text b
unfolding lay_text
text_is {b} s = ap (printed b) s.answer

pub early_text : (b : List ℕ) (r : Refusal) → ((fourth : Bool) → sheet_no b true fourth ≡ Some r) →
    lay_text b ≡ line "job refused" (r.number ∷ r.ordinal ∷ [])
unfolding lay_text
early_text b r h =
    ap (printed b) (answer_no b (program_strip b) (4 * most_pieces) program_work r (h (lengthb (sheet_n b) (program_strip b))))

put_shows : {b out out' text : List ℕ} {r : ℕ} → Put out out' 0 text r → length text ≤ length out → text ≡ lay_text b → Shows b out' r
put_shows {out = out} {out' = out'} {text = text} {r = r} p l e =
    let is : out' ≡ text ++ drop (0 + length text) out = p.words ∙ sets-eq text out 0 (omega arith) in
    record {
      text = rw is (take_at text _ r (omega (arith, p.after))) ∙ e;
      within = omega (arith, p.after, put_long p);
    }

module _ {b ws : List ℕ} {t : Totals} {n : ℕ} (s : Answered b ws (Ok t)) (e : n ≡ length (piece_records b)) where
  is_pieces : n ≡ length (sheet_pieces b)
  is_pieces = e ∙ sym (pieces_long b)

  pub laid_fits : {out : List ℕ} → 8192 ≤ length out → LaidFits out ws n
  unfolding lay_entries
  laid_fits l =
      record {
        few = omega (arith, is_pieces, few_read b);
        words = omega (arith, is_pieces, job_words _ _ _ _ _ _ (sheet_pieces b) ws s.rest (s.output t refl));
        room = l;
      }

  laid_text : laid_lines (figures_of b) ws n t ≡ printed b (Ok t)
  unfolding lay_entries laid_lines
  laid_text = rw (is_pieces, job_lines _ _ _ _ _ _ (sheet_pieces b) ws s.rest (s.output t refl))

  laid_few : length (laid_lines (figures_of b) ws n t) ≤ 8192
  unfolding laid_lines
  laid_few =
      omega (
        arith,
        is_pieces,
        few_read b,
        strip_few (sheet_w b) (sheet_r b) (sheet_n b),
        lines_few ws 0 n,
        totals_few t,
        length-append (line "strip" (sheet_w b ∷ sheet_r b ∷ sheet_n b ∷ [])) (entries_lines ws 0 n ++ totals_line t),
        length-append (entries_lines ws 0 n) (totals_line t),
      )

  pub laid_shows : {f : Figures} {out out' : List ℕ} {r : ℕ} → 8192 ≤ length out → f ≡ figures_of b → Put out out' 0 (laid_lines f ws n t) r → Shows b out' r
  laid_shows l g p = put_shows (rw g at p) (omega (arith, laid_few)) (laid_text ∙ text_is s)

pub refused_shows : {b ws out out' : List ℕ} {f : Refusal} {r : ℕ} → Answered b ws (Err f) → 8192 ≤ length out →
    Put out out' 0 (line "job refused" (f.number ∷ f.ordinal ∷ [])) r → Shows b out' r
unfolding line ascii
refused_shows {f = f} s l p =
    let ns : List ℕ = f.number ∷ f.ordinal ∷ [] in
    put_shows p (omega (arith, spaced_few ns, length-append (spaced ns) (10 ∷ []))) (text_is s)
