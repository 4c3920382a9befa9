-- Demand 2: cells of an outline, and sheets that read back. What the strip holds is `strip_is` of demand 3.
-- Assumes nothing.
use Rattle.std.specs.Prelude.{◌≡◌, ◌↔◌, ◌⊎◌, List, ℕ, ◌+◌, ◌*◌, ◌≤◌, ◌<◌, length, get_or, take, Result, Ok}
use Rattle.defs.specs.declared.Refusal.{Refusal}
use Rattle.defs.specs.declared.Figures.{Figures}
use Rattle.defs.specs.Meaning.Limits.{most_bytes}
use Rattle.defs.specs.Meaning.Turn.{turned}
use Rattle.defs.specs.Meaning.Cell.{CoveredGap, Run}
use Rattle.defs.specs.Meaning.Sheet.{Piece, ListHolds, SheetHolds, list_words, sheet_w, sheet_r, sheet_n}
use Rattle.defs.specs.Computing.Calls.{CoverStep}
use Rattle.defs.specs.Computing.Sheets.{size_of, ReadStep, WriteStep}

-- cell (i, j) lies in run m of the n runs written
pub record InRun (out : List ℕ) (n i j : ℕ) : Type 0 where
  pub m : ℕ
  pub is_run : m < n
  pub column : get_or out (3 * m) 0 ≡ i
  pub low : get_or out (3 * m + 1) 0 ≤ j
  pub high : j < get_or out (3 * m + 2) 0

-- "A cell belongs to a turned outline exactly when a point inside the outline lies in that cell"; S-4: "In demands 2 and 3 a piece's
-- cells are from here on the new ones".
pub record CellsAre (o : List ℕ) (t R g n : ℕ) (out : List ℕ) : Type 0 where
  pub cells : (i j : ℕ) → InRun out n i j ↔ CoveredGap (turned o t) R g i j
  pub runs :
      (m : ℕ) → m < n → Run (CoveredGap (turned o t) R g) (get_or out (3 * m) 0) (get_or out (3 * m + 1) 0) (get_or out (3 * m + 2) 0)
  pub in_order :
      (m : ℕ) → m + 1 < n →
      (get_or out (3 * m) 0 < get_or out (3 * m + 3) 0) ⊎
      ((get_or out (3 * m) 0 ≡ get_or out (3 * m + 3) 0) × (get_or out (3 * m + 2) 0 < get_or out (3 * m + 4) 0))

unfoldable pub Demand2_cells : Type 0
Demand2_cells =
    (o : List ℕ) (t R g n : ℕ) (out out' : List ℕ) → CoverStep o t R g out (Ok n) out' → CellsAre o t R g n out'

-- "A sheet written from an accepted cut list reads back as that list."
pub record ReadsBack (W R N : ℕ) (ws sheet : List ℕ) : Type 0 where
  pub pieces : List Piece
  pub list : ListHolds ws pieces
  pub sheet_holds : SheetHolds sheet pieces
  pub width : sheet_w sheet ≡ W
  pub resolution : sheet_r sheet ≡ R
  pub columns : sheet_n sheet ≡ N
  pub read :
      (a : Result Figures Refusal) (out out' : List ℕ) → ReadStep sheet out a out' → length (list_words pieces) ≤ length out →
      (a ≡ Ok (record { width = W; resolution = R; columns = N })) ×
      (take (length (list_words pieces)) out' ≡ list_words pieces)

unfoldable pub Demand2_sheets : Type 0
Demand2_sheets =
    (W R N n : ℕ) (ws out out' : List ℕ) → WriteStep W R N ws out (Ok n) out' → ReadsBack W R N ws (take n out')

-- And the other way round: what a granted read gave, written and read again, is the same. The sheet holds pieces, read's output begins
-- with their list, and the figures are the sheet's. Take any words ws that begin with that list: the output itself, or its first words
-- alone. A write of them, with the figures that read gave, is granted where the size is at most 65,536 bytes and the output has room, so
-- of write's questions only 2 and 15 can get "no". (Pieces of a sheet may share vertex records, and a written sheet has records for each,
-- so it can be larger.) And the sheet that a granted write of them leaves, read into enough room, gives the same figures and the same
-- list.
pub record ReadsAgain (sheet out : List ℕ) (f : Figures) : Type 0 where
  pub pieces : List Piece
  pub sheet_holds : SheetHolds sheet pieces
  pub list : ListHolds out pieces
  pub width : f.width ≡ sheet_w sheet
  pub resolution : f.resolution ≡ sheet_r sheet
  pub columns : f.columns ≡ sheet_n sheet
  pub granted :
      (ws o o' : List ℕ) (a : Result ℕ Refusal) → ListHolds ws pieces → WriteStep f.width f.resolution f.columns ws o a o' →
      size_of pieces ≤ most_bytes → size_of pieces ≤ length o → a ≡ Ok (size_of pieces)
  pub again :
      (ws o o' : List ℕ) (n : ℕ) → ListHolds ws pieces → WriteStep f.width f.resolution f.columns ws o (Ok n) o' →
      (a : Result Figures Refusal) (r r' : List ℕ) → ReadStep (take n o') r a r' → length (list_words pieces) ≤ length r →
      (a ≡ Ok f) × (take (length (list_words pieces)) r' ≡ take (length (list_words pieces)) out)

unfoldable pub Demand2_again : Type 0
Demand2_again = (sheet out out' : List ℕ) (f : Figures) → ReadStep sheet out (Ok f) out' → ReadsAgain sheet out' f
