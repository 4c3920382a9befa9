-- The round trip: the sheet that a granted write leaves is the one of its pieces, and reading it gives the figures and the list back.
-- Assumes nothing.
use mathlib.Core.Path.{◌≡◌, sym, ap, subst, ◌∙◌}
use mathlib.Core.List.{List, ◌++◌}
use Prim.Native.Nat.{ℕ, ◌≤◌}
use native.Mathlib.Omega.{arith}
use lib.ListN.{length, take, drop}
use lib.Seq.{take_at}
use Rattle.std.specs.Prelude.{Result, Ok}
use Rattle.defs.specs.declared.Refusal.{Refusal}
use Rattle.defs.specs.declared.Figures.{Figures}
use Rattle.defs.specs.Meaning.Sheet.{Piece, SheetHolds, sheet_r, list_words}
use Rattle.defs.specs.Computing.Sheets.{sheet_bytes, sheet_pieces, read_output, list_pieces, write_output, ReadStep, WriteStep}
use Rattle.sheets.proofs.PiecesBack.{Each}
use Rattle.sheets.proofs.SheetBack.{sheet_back, sheet_long, back_W, back_R, back_N}
use Rattle.sheets.proofs.Asking.{PiecePasses, all_shaped}
use Rattle.sheets.proofs.Passing.{holds_pieces, holds_none}
use Rattle.sheets.proofs.ListBack.{Accepted, all_pass, few_pieces}
use Rattle.sheets.proofs.Answers.{figures_of, read_grants, WriteGranted, write_granted}

-- The output of a granted read begins with the list of the sheet's pieces.
pub list_read : {b out out' : List ℕ} {f : Figures} → ReadStep b out (Ok f) out' →
    out' ≡ list_words (sheet_pieces b) ++ drop (length (list_words (sheet_pieces b))) out
unfolding read_output
list_read r = r.output

-- A sheet that holds pieces that pass is read as these, into any output with room for the list.
pub reads : {b : List ℕ} {ps : List Piece} → SheetHolds b ps → Each (PiecePasses (sheet_r b)) ps →
    (a : Result Figures Refusal) (o o' : List ℕ) → ReadStep b o a o' → length (list_words ps) ≤ length o →
    (a ≡ Ok (figures_of b)) × (take (length (list_words ps)) o' ≡ list_words ps)
reads {b} {ps} h s a o o' r l = (e, words)
  where
    list : list_words (sheet_pieces b) ≡ list_words ps
    list = ap list_words (holds_pieces h)

    e : a ≡ Ok (figures_of b)
    e = r.answer ∙ read_grants b (length o) (holds_none h s) (omega (arith, ap length list))

    words : take (length (list_words ps)) o' ≡ list_words ps
    words =
        ap (take (length (list_words ps))) (list_read (subst (λ (x : Result Figures Refusal). ReadStep b o x o') e r)) ∙
        take_at (list_words (sheet_pieces b)) _ (length (list_words ps)) (ap length list) ∙ list

module _ {W R N n : ℕ} {ws out out' : List ℕ} (w : WriteStep W R N ws out (Ok n) out') where
  granted : WriteGranted W R N ws (length out) n
  granted = write_granted W R N ws (length out) n w.answer

  abbrev ps : List Piece
  ps = list_pieces ws

  pub list_accepted : Accepted W R N ws
  list_accepted = granted.list

  pub sheet_is : take n out' ≡ sheet_bytes W R N ps
  unfolding write_output
  sheet_is = ap (take n) w.output ∙ take_at (sheet_bytes W R N ps) (drop n out) n (sheet_long W R N ps ∙ sym granted.size)

  pub figures_back : figures_of (take n out') ≡ record { width = W; resolution = R; columns = N }
  figures_back = rw (sheet_is, back_W W R N ps, back_R W R N ps, back_N W R N ps)

  pub sheet_holds : SheetHolds (take n out') ps
  sheet_holds =
      rw sheet_is
      (sheet_back W R N ps list_accepted.limits (all_shaped (all_pass list_accepted)) (few_pieces list_accepted) granted.small)

  passes_back : Each (PiecePasses (sheet_r (take n out'))) ps
  passes_back = rw (ap (λ (f : Figures). f.resolution) figures_back) (all_pass list_accepted)

  pub reads_back : (a : Result Figures Refusal) (o o' : List ℕ) → ReadStep (take n out') o a o' → length (list_words ps) ≤ length o →
      (a ≡ Ok (record { width = W; resolution = R; columns = N })) × (take (length (list_words ps)) o' ≡ list_words ps)
  reads_back a o o' r l =
      let h = reads sheet_holds passes_back a o o' r l in
      (h.0 ∙ ap Ok figures_back, h.1)
