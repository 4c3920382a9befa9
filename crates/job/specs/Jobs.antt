-- What laying a job needs and leaves. Assumes nothing.
use Rattle.std.specs.Prelude.{◌≡◌, true, false, List, [], ℕ, ◌*◌, ◌≤◌, length, replicate, Ok}
use Rattle.std.proofs.lemmas.List.Edits.{sets}
use Rattle.defs.specs.declared.Totals.{Totals}
use Rattle.defs.specs.Meaning.Limits.{most_gap}
use Rattle.defs.specs.Meaning.Strip.{Limits}
use Rattle.defs.specs.Meaning.Sheet.{sheet_w, sheet_r, sheet_n}
use Rattle.defs.specs.Computing.Words.{gapb, lengthb, records_of}
use Rattle.defs.specs.Computing.Sheets.{piece_records, sheet_pieces}
use Rattle.defs.specs.Computing.Lay.{placed_in, used_in, entries_words, lay_entries, LayLeaves}
use Rattle.tables.specs.Flat.{table_of}
use Rattle.reads.specs.Steps.{Passed}
use Rattle.piece.specs.Boards.{Board, Boards}

-- a table to write on a strip of so many words
pub record StripReady (f l h : List ℕ) (W R N g words : ℕ) : Type 0 where
  pub limits : Limits W R N
  pub gap : g ≤ most_gap
  pub long : lengthb N words ≡ true
  pub board : Board f l h W N (records_of N words)

-- a sheet that passes its questions, with a strip of the right length and an output with room for its entries
pub record JobPassed (b : List ℕ) (g strip out : ℕ) : Type 0 where
  pub count : ℕ
  pub passed : Passed b count
  pub gap : gapb g ≡ true
  pub four : lengthb (sheet_n b) strip ≡ true
  pub room : 4 * length (piece_records b) ≤ out

-- empty tables for the figures of the sheet
pub record Fresh (b : List ℕ) (f l h f₂ l₂ h₂ : List ℕ) (W R N g strip : ℕ) : Type 0 where
  pub width : W ≡ sheet_w b
  pub resolution : R ≡ sheet_r b
  pub columns : N ≡ sheet_n b
  pub boards : Boards false f l h f₂ l₂ h₂ W R N g (records_of N strip)
  pub empty : table_of f l h N ≡ replicate N []

-- a laid job
pub record JobDone (b : List ℕ) (g : ℕ) (s out : List ℕ) (words : ℕ) (t : Totals) (s' out' : List ℕ) : Type 0 where
  pub placed : t.placed ≡ placed_in (lay_entries b g (length s) words)
  pub used : t.used ≡ used_in (sheet_r b) (sheet_pieces b) (lay_entries b g (length s) words)
  pub output : out' ≡ sets out 0 (entries_words (lay_entries b g (length s) words))
  pub strip : LayLeaves b g s words (Ok t) s'
