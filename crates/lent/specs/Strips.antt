-- The words of the strip that program `lay` lends. Assumes nothing.
use Rattle.std.specs.Prelude.{◌≡◌, Bool, true, List, ℕ, ◌+◌, ◌*◌, ◌≤◌, Some}
use Rattle.defs.specs.declared.Refusal.{Refusal}
use Rattle.defs.specs.Meaning.Limits.{most_columns, leading_words, record_words}
use Rattle.defs.specs.Computing.Sheets.{sheet_no}
use Rattle.defs.specs.Computing.Text.{program_records, program_strip}

-- a strip of n words serves: it has the words that it is to have, or the sheet is refused whatever the answer to 4
pub data StripFor (b : List ℕ) (n : ℕ) : Type 0 where
  exact : n ≡ program_strip b → StripFor b n
  early : (r : Refusal) → ((fourth : Bool) → sheet_no b true fourth ≡ Some r) → StripFor b n

pub record StripWords (b : List ℕ) (n : ℕ) : Type 0 where
  pub few : n ≤ leading_words + most_columns + record_words * program_records
  pub serves : StripFor b n
