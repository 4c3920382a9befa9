-- What is known of a sheet after each of its questions.
-- Assumes nothing.
use Rattle.std.specs.Prelude.{◌≡◌, Bool, true, List, ℕ, length, Option, Some, None, Result, Ok, Err}
use Rattle.defs.specs.declared.Refusal.{Refusal}
use Rattle.defs.specs.Meaning.Sheet.{sheet_w, sheet_r, sheet_n}
use Rattle.defs.specs.Computing.Words.{limits_no, gapb, lengthb}
use Rattle.defs.specs.Computing.Sheets.{q1b, q2b, q6b, piece_records, sheet_no}
use Rattle.pieceno.specs.Refused.{NoneRefused}

-- 1 to 3, 16 and 17 are passed
pub record Begun (b : List ℕ) : Type 0 where
  pub one : q1b b ≡ true
  pub two : q2b b ≡ true
  pub limits : limits_no (sheet_w b) (sheet_r b) (sheet_n b) ≡ 0

-- 6 is passed by `count` pieces
pub record Counted (b : List ℕ) (count : ℕ) : Type 0 where
  pub begun : Begun b
  pub six : q6b b ≡ true
  pub long : length (piece_records b) ≡ count

-- 7 to 11 are passed
pub record Passed (b : List ℕ) (count : ℕ) : Type 0 where
  pub counted : Counted b count
  pub none_no : NoneRefused b

-- 21 and 4 are asked where a strip is lent
abbrev pub gap_of : Option (ℕ × ℕ) → Bool
gap_of None = true
gap_of (Some (g, n)) = gapb g

abbrev pub fourth_of : Option (ℕ × ℕ) → ℕ → Bool
fourth_of None N = true
fourth_of (Some (g, n)) N = lengthb N n

pub record JobPasses (b : List ℕ) (gap fourth : Bool) (count : ℕ) : Type 0 where
  pub passed : Passed b count
  pub gap_fits : gap ≡ true
  pub four : fourth ≡ true

pub record JobRefused (b : List ℕ) (gap fourth : Bool) (r : Refusal) : Type 0 where
  pub is : sheet_no b gap fourth ≡ Some r

-- the first "no" of the sheet's questions, or that all are passed
abbrev pub JobAsked : List ℕ → Bool → Bool → Result ℕ Refusal → Type 0
JobAsked b gap fourth (Ok n) = JobPasses b gap fourth n
JobAsked b gap fourth (Err r) = JobRefused b gap fourth r
