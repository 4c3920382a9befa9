-- Demand 2, sheets: a sheet written from an accepted cut list reads back as that list, and what read gave, written and read again, is
-- the same.
-- Assumes nothing.
use mathlib.Core.Path.{◌≡◌, refl, sym, ap, ◌∙◌}
use mathlib.Core.List.{List}
use Prim.Native.Nat.{ℕ}
use native.Mathlib.Omega.{arith}
use lib.ListN.{length, take, drop}
use lib.Seq.{take_at}
use Rattle.std.specs.Prelude.{None, Ok}
use Rattle.defs.specs.declared.Figures.{Figures}
use Rattle.defs.specs.Meaning.Strip.{Limits}
use Rattle.defs.specs.Meaning.Sheet.{Piece, ListHolds, list_words}
use Rattle.defs.specs.Computing.Sheets.{size_of, sheet_pieces, list_pieces, list_no, ReadStep}
use Rattle.sheets.proofs.PiecesBack.{Each}
use Rattle.sheets.proofs.Asking.{PiecePasses}
use Rattle.sheets.proofs.Passing.{few_read}
use Rattle.sheets.proofs.ListBack.{list_holds, words_accepted, words_pieces}
use Rattle.sheets.proofs.Answers.{ReadGranted, read_granted, write_grants}
use Rattle.sheets.proofs.Trip.{list_read, list_accepted, figures_back, sheet_holds, reads_back}
use Rattle.claims.specs.Demand2.{Demand2_sheets, ReadsAgain, Demand2_again}

pub demand2_sheets : Demand2_sheets
unfolding Demand2_sheets
demand2_sheets W R N n ws out out' w =
    record {
      pieces = list_pieces ws;
      list = list_holds (list_accepted w);
      sheet_holds = sheet_holds w;
      width = ap (λ (f : Figures). f.width) (figures_back w);
      resolution = ap (λ (f : Figures). f.resolution) (figures_back w);
      columns = ap (λ (f : Figures). f.columns) (figures_back w);
      read = reads_back w;
    }

-- a granted read, and words that begin with its list
module _ {sheet out out' : List ℕ} {f : Figures} (r : ReadStep sheet out (Ok f) out') where
  given : ReadGranted sheet (length out) f
  given = read_granted sheet (length out) f r.answer

  abbrev ps : List Piece
  ps = sheet_pieces sheet

  limits : Limits f.width f.resolution f.columns
  limits = rw given.figures given.held.holds.limits

  passes : Each (PiecePasses f.resolution) ps
  passes = rw given.figures given.held.passes

  module _ {ws : List ℕ} (l : ListHolds ws ps) where
    none_no : list_no f.width f.resolution f.columns ws ≡ None
    none_no = rw l.words (words_accepted l.rest limits (few_read sheet) passes)

    same_pieces : list_pieces ws ≡ ps
    same_pieces = rw l.words (words_pieces l.rest limits (few_read sheet) passes)

    same_list : list_words (list_pieces ws) ≡ list_words ps
    same_list = ap list_words same_pieces

  -- the first words of read's output
  first_words : take (length (list_words ps)) out' ≡ list_words ps
  first_words = ap (take (length (list_words ps))) (list_read r) ∙ take_at (list_words ps) _ (length (list_words ps)) refl

  pub reads_again : ReadsAgain sheet out' f
  reads_again =
      record {
        pieces = ps;
        sheet_holds = given.held.holds;
        list = record { rest = drop (length (list_words ps)) out; words = list_read r };
        width = ap (λ (g : Figures). g.width) given.figures;
        resolution = ap (λ (g : Figures). g.resolution) given.figures;
        columns = ap (λ (g : Figures). g.columns) given.figures;
        granted =
            λ ws o o' a l w small room.
            let size = ap size_of (same_pieces l) in
            w.answer ∙
            write_grants f.width f.resolution f.columns ws (length o) (none_no l) (omega (arith, size)) (omega (arith, size)) ∙
            ap Ok size;
        again =
            λ ws o o' n l w a q q' s room.
            let long = ap length (same_list l) in
            let h = reads_back w a q q' s (omega arith) in
            (h.0, ap (λ (k : ℕ). take k q') (sym long) ∙ h.1 ∙ same_list l ∙ sym first_words);
      }

pub demand2_again : Demand2_again
unfolding Demand2_again
demand2_again sheet out out' f r = reads_again r
