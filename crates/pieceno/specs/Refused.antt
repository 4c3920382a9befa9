-- The first piece of a sheet that gets "no".
-- Assumes nothing.
use Rattle.std.specs.Prelude.{◌≡◌, List, ℕ, ◌<◌, Some, None, Result, Ok, Err}
use Rattle.defs.specs.declared.Refusal.{Refusal}
use Rattle.defs.specs.Computing.Sheets.{piece_records, sheet_piece_no, first_no}

pub record NoneRefused (b : List ℕ) : Type 0 where
  pub is : first_no (sheet_piece_no b) 1 (piece_records b) ≡ None

pub record FirstRefused (b : List ℕ) (r : Refusal) : Type 0 where
  pub is : first_no (sheet_piece_no b) 1 (piece_records b) ≡ Some r

-- "7 to 11 piece by piece": the first piece with a "no"
abbrev pub Asked : List ℕ → Result Unit Refusal → Type 0
Asked b (Ok tt) = NoneRefused b
Asked b (Err r) = FirstRefused b r

-- the first of 7 to 11 that gets "no" for piece record `at`: its number, or that there is none
abbrev pub PieceAsked : List ℕ → ℕ → Result Unit ℕ → Type 0
PieceAsked b at (Ok tt) = sheet_piece_no b at ≡ 0
PieceAsked b at (Err n) = (n ≡ sheet_piece_no b at) × (0 < n)
