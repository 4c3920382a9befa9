-- The records of a sheet, numbered through.
-- Assumes nothing.
use Rattle.std.specs.Prelude.{List, ℕ, ◌+◌, ◌*◌}
use Rattle.defs.specs.Meaning.Sheet.{number_at}
use Rattle.reader.specs.declared.Numbers.{Numbers}

-- number i (0, 1 or 2) of record r; `vertex_number b r i` is this, and `piece_number b r i` is `record_number b (sheet_v b + r) i`
abbrev pub record_number : List ℕ → ℕ → ℕ → ℕ
record_number b r i = number_at b (10 + 6 * r + 2 * i)

abbrev pub numbers_at : List ℕ → ℕ → Numbers
numbers_at b r = record { first = record_number b r 0; second = record_number b r 1; next = record_number b r 2 }
