-- Lay is one list of place calls, so that demand 3 covers it; its totals are those of its output. Assumes nothing.
use Rattle.std.specs.Prelude.{◌≡◌, List, [], ℕ, ◌+◌, ◌*◌, ◌<◌, length, get_or, Ok}
use Rattle.defs.specs.declared.Totals.{Totals}
use Rattle.defs.specs.Answer.{fate_words}
use Rattle.defs.specs.Meaning.Sheet.{Piece, SheetHolds, sheet_w, sheet_r, sheet_n}
use Rattle.defs.specs.Meaning.Job.{Used, CountPlaced}
use Rattle.defs.specs.Computing.Lay.{fate_of, LayStep}
use Rattle.claims.specs.Places.{PlaceCalls, PlaceTrace, PlaceDemand3}

-- piece m, counted from 0
abbrev pub piece_at : List Piece → ℕ → Piece
piece_at ps m = get_or ps m (record { mask = 0; outline = [] })

-- "Lay reads a sheet, opens the lent strip and places the pieces in chain order, going on after a piece that is refused.
-- Output is four words a piece … The answer adds pieces placed"; S-7: "Used length, of 32 bits, is the greatest right edge, 0 if none, and
-- replaces used columns in the answer and the last line".
pub record LaysList (b : List ℕ) (g : ℕ) (s : List ℕ) (t : Totals) (s' out' work : List ℕ) : Type 0 where
  pub pieces : List Piece
  pub sheet : SheetHolds b pieces
  pub list : PlaceCalls
  pub steps : PlaceTrace (sheet_w b) (sheet_r b) (sheet_n b) g list
  pub opens : list.lent ≡ s
  pub all_of_them : list.count ≡ length pieces
  pub outlines : (m : ℕ) → m < length pieces → (list.call m).outline ≡ (piece_at pieces m).outline
  pub masks : (m : ℕ) → m < length pieces → (list.call m).mask ≡ (piece_at pieces m).mask
  pub works : (m : ℕ) → m < length pieces → length (list.call m).work ≡ length work
  pub leaves : list.strip list.count ≡ s'
  pub output :
      (m i : ℕ) → m < length pieces → i < 4 → get_or out' (4 * m + i) 0 ≡ get_or (fate_words (fate_of (list.call m).answer)) i 0
  pub used : Used (sheet_r b) (λ m. (list.call m).outline) (λ m. fate_of (list.call m).answer) (length pieces) t.used
  pub placed : CountPlaced (λ m. fate_of (list.call m).answer) (length pieces) t.placed

unfoldable pub Lay_is_a_list : Type 0
Lay_is_a_list =
    (b : List ℕ) (g : ℕ) (s out work : List ℕ) (t : Totals) (s' out' work' : List ℕ) →
    LayStep b g s out work (Ok t) s' out' work' → LaysList b g s t s' out' work

-- Demand 3 for a laid job: its calls are a list of place calls, of which all of demand 3 holds.
unfoldable pub Lay_demand3 : Type 0
Lay_demand3 =
    (b : List ℕ) (g : ℕ) (s out work : List ℕ) (t : Totals) (s' out' work' : List ℕ) →
    LayStep b g s out work (Ok t) s' out' work' →
    (l : LaysList b g s t s' out' work) × PlaceDemand3 (sheet_w b) (sheet_r b) (sheet_n b) g l.list
