-- What is past the output stays: what a granted call writes is as long as its output, and the rest is as it was.
-- Assumes nothing.
use mathlib.Core.Path.{◌≡◌, refl, sym, ap, ◌∙◌}
use mathlib.Core.List.{List, [], ◌++◌}
use Prim.Native.Nat.{ℕ, ◌*◌, ◌^◌, ◌≤◌}
use native.Mathlib.Omega.{arith}
use lib.ListN.{length, drop, replicate, length-append, length-drop, length-map}
use lib.Seq.{drop-append_seam}
use borrow.Author.Tests.{leb-true}
use Rattle.std.specs.Prelude.{Ok}
use Rattle.defs.specs.declared.Figures.{Figures}
use Rattle.defs.specs.declared.Totals.{Totals}
use Rattle.defs.specs.Meaning.Sheet.{Piece, SheetHolds, list_words, sheet_w, sheet_r, sheet_n}
use Rattle.defs.specs.Computing.Cells.{piece_runs, count_runs}
use Rattle.defs.specs.Computing.Words.{records_of}
use Rattle.defs.specs.Computing.Calls.{cover_output, runs_words, CoverStep}
use Rattle.defs.specs.Computing.Sheets.{sheet_bytes, sheet_pieces, piece_records, piece_of, list_pieces, write_output, ReadStep, WriteStep}
use Rattle.defs.specs.Computing.Lay.{lay_entries, lay_output, entries_words, LayStep}
use Rattle.laws.proofs.Questions.{question_9_turn}
use Rattle.laws.proofs.Entries.{length-entries_from, length-entries_words}
use Rattle.geom.proofs.Checks.{none_no_is}
use Rattle.geom.proofs.OneTurn.{room_one}
use Rattle.geom.proofs.RunWords.{runs_length}
use Rattle.sheets.proofs.SheetBack.{sheet_long}
use Rattle.sheets.proofs.Passing.{holds_pieces}
use Rattle.sheets.proofs.Answers.{read_granted, write_granted}
use Rattle.sheets.proofs.Trip.{list_read}
use Rattle.claims.specs.Demand1.{Past}
use Rattle.claims.proofs.CoverCells.{granted}
use Rattle.claims.proofs.LayList.{lay_granted}

pub past : (k : ℕ) (ws out out' : List ℕ) → length ws ≡ k → k ≤ length out → out' ≡ ws ++ drop k out → Past k out out'
past k ws out out' long room is =
    record {
      long = ap length is ∙ omega (arith, length-append ws (drop k out), length-drop k out);
      stays = ap (drop k) is ∙ ap (λ (n : ℕ). drop n (ws ++ drop k out)) (sym long) ∙ drop-append_seam ws (drop k out);
    }

pub cover_past : {o : List ℕ} {t R g n : ℕ} {out out' : List ℕ} → CoverStep o t R g out (Ok n) out' → Past (3 * n) out out'
unfolding cover_output
cover_past {o} {t} {R} {g} {n} {out} {out'} x =
    let h = granted o t R g (length out) n x.answer in
    let q9 = (question_9_turn t).0 ((none_no_is o _ (2 ^ t) R).0 h.none_no).2 in
    let room = leb-true (3 * count_runs (piece_runs o t R g)) (length out) (sym (room_one o R g (length out) t q9) ∙ h.room) in
    past (3 * n) (runs_words 0 (piece_runs o t R g)) out out' (omega (arith, runs_length 0 (piece_runs o t R g), h.count))
    (omega (arith, h.count)) x.output

pub read_past : {b out out' : List ℕ} {f : Figures} {ps : List Piece} → ReadStep b out (Ok f) out' → SheetHolds b ps →
    Past (length (list_words ps)) out out'
read_past {b} {out} {out'} {f} {ps} x h =
    let g = read_granted b (length out) f x.answer in
    rw (← holds_pieces h) (past (length (list_words (sheet_pieces b))) (list_words (sheet_pieces b)) out out' refl g.room (list_read x))

pub write_past : {W R N n : ℕ} {ws out out' : List ℕ} → WriteStep W R N ws out (Ok n) out' → Past n out out'
unfolding write_output
write_past {W} {R} {N} {n} {ws} {out} {out'} x =
    let g = write_granted W R N ws (length out) n x.answer in
    past n (sheet_bytes W R N (list_pieces ws)) out out' (sheet_long W R N (list_pieces ws) ∙ sym g.size)
    (omega (arith, g.size, g.room)) x.output

pieces_long : (b : List ℕ) → length (sheet_pieces b) ≡ length (piece_records b)
unfolding sheet_pieces
pieces_long b = length-map (piece_records b) (piece_of b)

entries_long : (b : List ℕ) (g strip work : ℕ) → length (entries_words (lay_entries b g strip work)) ≡ 4 * length (sheet_pieces b)
unfolding lay_entries
entries_long b g strip work =
    omega (
      arith,
      length-entries_words (lay_entries b g strip work),
      length-entries_from (sheet_w b) (sheet_r b) (sheet_n b) g (records_of (sheet_n b) strip) work 1 (replicate (sheet_n b) [])
          (sheet_pieces b),
    )

pub lay_past : {b : List ℕ} {g : ℕ} {s out work s' out' work' : List ℕ} {t : Totals} {ps : List Piece} →
    LayStep b g s out work (Ok t) s' out' work' → SheetHolds b ps → Past (4 * length ps) out out'
unfolding lay_output
lay_past {b} {g} {s} {out} {work} {s'} {out'} {work'} {t} {ps} x h =
    let given = lay_granted b g (length s) (length out) (length work) t x.answer in
    let ws = entries_words (lay_entries b g (length s) (length work)) in
    let e : length ws ≡ 4 * length ps =
    entries_long b g (length s) (length work) ∙ ap (λ (qs : List Piece). 4 * length qs) (holds_pieces h) in
    past (4 * length ps) ws out out' e (omega (arith, given.room, pieces_long b, ap length (holds_pieces h)))
    (x.output ∙ ap (λ (n : ℕ). ws ++ drop n out) e)
