-- The limits and sizes that document 01 names, each once. Assumes nothing.
use Rattle.std.specs.Prelude.{ℕ, ◌≤◌}

-- "An outline is 3 to 64 vertices (x, y), whole units 0 to 16,000"
abbrev pub least_vertices : ℕ
least_vertices = 3

abbrev pub most_vertices : ℕ
most_vertices = 64

abbrev pub most_coordinate : ℕ
most_coordinate = 16000

-- "Turn t (0 to 3)"; "The turn mask is 1 to 15"
abbrev pub most_turn : ℕ
most_turn = 3

abbrev pub most_mask : ℕ
most_mask = 15

-- "Resolution R is 1 to 400 units."
abbrev pub most_resolution : ℕ
most_resolution = 400

-- "Width W is 1 to 16,000 units, columns N 1 to 4,096, records Q 1 to 16,000."
abbrev pub most_width : ℕ
most_width = 16000

abbrev pub most_columns : ℕ
most_columns = 4096

abbrev pub most_records : ℕ
most_records = 16000

-- S-4: "a gap g of 0 to 400 units"
abbrev pub most_gap : ℕ
most_gap = 400

-- "The strip is 4 + N + 4Q lent 16-bit words", changed by S-4: the gap is "kept in a fifth leading word; records and heads move up by one".
abbrev pub leading_words : ℕ
leading_words = 5

abbrev pub record_words : ℕ
record_words = 4

-- "end within 200 pieces"; "at most 65,536" bytes
abbrev pub most_pieces : ℕ
most_pieces = 200

abbrev pub most_bytes : ℕ
most_bytes = 65536

-- x is `least` to `most`.
pub record Between (least x most : ℕ) : Type 0 where
  pub at_least : least ≤ x
  pub at_most : x ≤ most
