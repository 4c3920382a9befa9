-- The answer of lay for a strip and an output that are cut down.
-- Assumes nothing.
use mathlib.Core.Path.{◌≡◌, refl, sym, ap, ◌∙◌}
use mathlib.Core.Bool.{Bool}
use mathlib.Core.List.{List, [], map}
use Prim.Native.Nat.{ℕ, ◌*◌, ◌≤◌}
use native.Mathlib.Omega.{arith}
use lib.Dec.{eqb, leb}
use lib.ListN.{length, replicate, length-map}
use borrow.Author.Tests.{eqb-true, leb-true}
use Rattle.std.specs.Prelude.{Option, Some, None, Result, Ok, Err}
use Rattle.defs.specs.declared.Refusal.{Refusal}
use Rattle.defs.specs.declared.Totals.{Totals}
use Rattle.defs.specs.Meaning.Limits.{most_pieces, most_columns}
use Rattle.defs.specs.Meaning.Sheet.{sheet_w, sheet_r, sheet_n, piece_number, first_piece}
use Rattle.defs.specs.Computing.Test.{ask}
use Rattle.defs.specs.Computing.Words.{limits_no, gapb, lengthb, records_of}
use Rattle.defs.specs.Computing.Calls.{refusal}
use Rattle.defs.specs.Computing.Sheets.{q1b, q2b, piece_of, piece_records, sheet_no, sheet_pieces}
use Rattle.defs.specs.Computing.Lay.{placed_in, used_in, entries_words, lay_entries, lay_answer}
use Rattle.laws.proofs.Tests.{asked, ask_same}
use Rattle.laws.proofs.Questions.{limits_none}
use Rattle.laws.proofs.Walks.{chain_few}
use Rattle.laws.proofs.Entries.{length-entries_from, length-entries_words}
use Rattle.laws.proofs.Granted.{no_grant}
use Rattle.sheets.proofs.Asking.{some_none}
use Rattle.sheets.proofs.Answers.{said, not_refused}
use Rattle.byteput.proofs.Caps.{Capped, uncapped, room_same}
use Rattle.byteput.proofs.Strips.{short, length_same}

-- what was refused first is refused alike, and what follows is the same
said_same : {A : Type 0} (refused : Refusal → A) {x y : A} (first : Option Refusal) → (first ≡ None → x ≡ y) →
    said refused x first ≡ said refused y first
said_same refused None h = h refl
said_same refused (Some r) h = refl

few_columns : (b : List ℕ) → limits_no (sheet_w b) (sheet_r b) (sheet_n b) ≡ 0 → sheet_n b ≤ most_columns
few_columns b e = ((limits_none (sheet_w b) (sheet_r b) (sheet_n b)).0 e).columns.at_most

-- 4 is asked after 3, 16, 17 and 21
sheet_same : (b : List ℕ) (gap : Bool) {m n : ℕ} → Capped 68101 m n → sheet_no b gap (lengthb (sheet_n b) n) ≡ sheet_no b gap (lengthb (sheet_n b) m)
unfolding sheet_no
sheet_same b gap c =
    let first = limits_no (sheet_w b) (sheet_r b) (sheet_n b) in
    ask_same (q1b b) _ _ _
    (λ _.
    ask_same (q2b b) _ _ _
    (λ _. ask_same (eqb first 0) _ _ _ (λ e. rw (length_same (sheet_n b) (few_columns b (eqb-true first 0 e)) c))))

-- a sheet that gets no "no" has a strip that is not too long
none_short : (b : List ℕ) (gap : Bool) (n : ℕ) → sheet_no b gap (lengthb (sheet_n b) n) ≡ None → n ≤ 68101
unfolding sheet_no
none_short b gap n e =
    let first = limits_no (sheet_w b) (sheet_r b) (sheet_n b) in
    let e1 = asked (q1b b) _ e some_none in
    let e2 = asked (q2b b) _ e1.1 some_none in
    let e3 = asked (eqb first 0) _ e2.1 some_none in
    let e21 = asked gap _ e3.1 some_none in
    let e4 = asked (lengthb (sheet_n b) n) _ e21.1 some_none in
    short (sheet_n b) n (few_columns b (eqb-true first 0 e3.0)) e4.0

few_records : (b : List ℕ) → length (piece_records b) ≤ most_pieces
unfolding piece_records
few_records b = chain_few (λ r. piece_number b r 2) most_pieces (first_piece b)

-- the answer of a job that gets no "no" before 15
abbrev answered : List ℕ → ℕ → ℕ → ℕ → ℕ → Result Totals Refusal
answered b g strip out work =
    ask (leb (4 * length (piece_records b)) out) (Err (refusal 15 0)) λ _.
    let es = lay_entries b g strip work in
    Ok (record { placed = placed_in es; used = used_in (sheet_r b) (sheet_pieces b) es })

-- strip and output
pub lay_same : (b : List ℕ) (g : ℕ) {m n k l : ℕ} (work : ℕ) → Capped 68101 m n → Capped 799 k l → lay_answer b g n l work ≡ lay_answer b g m k work
unfolding lay_answer
lay_same b g {m} {n} {k} {l} work c d =
    ap (said Err (answered b g n l work)) (sheet_same b (gapb g) c) ∙
    said_same Err (sheet_no b (gapb g) (lengthb (sheet_n b) m))
    (λ e.
    let strip : n ≡ m = uncapped c (none_short b (gapb g) n (sheet_same b (gapb g) c ∙ e)) in
    rw (strip, room_same (4 * length (piece_records b)) (omega (arith, few_records b)) d))

-- the entries of a laid job fit
pub laid_fits : (b : List ℕ) (g strip out work : ℕ) {t : Totals} → Ok t ≡ lay_answer b g strip out work →
    length (entries_words (lay_entries b g strip work)) ≤ out
unfolding lay_answer lay_entries sheet_pieces
laid_fits b g strip out work e =
    let passed = not_refused (sheet_no b (gapb g) (lengthb (sheet_n b) strip)) (sym e) (λ r. no_grant) in
    let es = lay_entries b g strip work in
    let ps = map (piece_of b) (piece_records b) in
    omega (
      arith,
      leb-true (4 * length (piece_records b)) out (asked (leb (4 * length (piece_records b)) out) _ passed.1 no_grant).0,
      length-entries_words es,
      length-entries_from (sheet_w b) (sheet_r b) (sheet_n b) g (records_of (sheet_n b) strip) work 1 (replicate (sheet_n b) []) ps,
      length-map (piece_records b) (piece_of b),
    )
