-- What laying all pieces of a sheet needs and leaves. Assumes nothing.
use Rattle.std.specs.Prelude.{◌≡◌, false, List, ℕ, ◌*◌, ◌≤◌, length}
use Rattle.std.proofs.lemmas.List.Edits.{sets}
use Rattle.defs.specs.Computing.Cells.{Rows}
use Rattle.defs.specs.Computing.Sheets.{piece_records, sheet_pieces}
use Rattle.defs.specs.Computing.Lay.{entries_from, held_from, placed_in, used_in, entries_words}
use Rattle.cutlist.specs.Pieces.{ChainEnds}
use Rattle.pieceno.specs.Refused.{NoneRefused}
use Rattle.fates.specs.declared.Tally.{Tally}
use Rattle.piece.specs.Boards.{held_by, Boards}

-- a sheet whose pieces pass their questions, empty tables, and an output with room for an entry a piece
pub record JobReady (b : List ℕ) (v : ℕ) (f l h f₂ l₂ h₂ out : List ℕ) (W R N g Q : ℕ) : Type 0 where
  pub chain : ChainEnds b v
  pub none_no : NoneRefused b
  pub bytes : length b ≤ 65536
  pub boards : Boards false f l h f₂ l₂ h₂ W R N g Q
  pub room : 4 * length (piece_records b) ≤ length out

-- all pieces, from a table of runs on
pub record JobLaid (b : List ℕ) (held : List (List Rows)) (f l h f₂ l₂ h₂ out out' : List ℕ) (W R N g Q words : ℕ) (t : Tally) : Type 0 where
  pub output : out' ≡ sets out 0 (entries_words (entries_from W R N g Q words 1 held (sheet_pieces b)))
  pub placed : t.placed ≡ placed_in (entries_from W R N g Q words 1 held (sheet_pieces b))
  pub used : t.used ≡ used_in R (sheet_pieces b) (entries_from W R N g Q words 1 held (sheet_pieces b))
  pub boards : Boards t.second f l h f₂ l₂ h₂ W R N g Q
  pub holds : held_by t.second f l h f₂ l₂ h₂ N ≡ held_from W R N g Q words held (sheet_pieces b)
