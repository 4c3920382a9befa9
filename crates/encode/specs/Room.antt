-- A strip of so many words has room for N columns and t runs.
-- Assumes nothing.
use Rattle.std.specs.Prelude.{◌≡◌, true, ℕ, ◌≤◌}
use Rattle.defs.specs.Computing.Words.{lengthb, records_of}

pub record Room (N t words : ℕ) : Type 0 where
  pub columns : N ≤ 4096
  pub long : lengthb N words ≡ true
  pub fits : t ≤ records_of N words
