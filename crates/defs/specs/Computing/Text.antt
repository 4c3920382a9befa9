-- What program `lay` prints, as bytes. Assumes nothing.
use Rattle.std.specs.Prelude.{cond, List, [], ◌∷◌, ◌++◌, ℕ, zero, suc, ◌+◌, ◌*◌, ◌/◌, ◌%◌, ltb, Ok, Err}
use Prim.Native.String.{String}
use Rattle.defs.specs.declared.Fate.TheVariants.{Placed, Refused}
use Rattle.defs.specs.declared.Entry.{Entry}
use Rattle.defs.specs.declared.Totals.{Totals}
use Rattle.defs.specs.Meaning.Limits.{leading_words, record_words, most_pieces}
use Rattle.defs.specs.Meaning.Sheet.{sheet_w, sheet_r, sheet_n}
use Rattle.defs.specs.Computing.Lay.{lay_entries, lay_answer}
use Rattle.defs.specs.Computing.Ascii.{ascii}

-- the last k digits of n, without leading zeros, before those that are given
unfoldable pub digits : ℕ → ℕ → List ℕ → List ℕ
digits zero n ds = ds
digits (suc k) n ds =
    let here = (48 + n % 10) ∷ ds in
    let more = digits k (n / 10) here in
    cond (ltb n 10) here more

-- a number of 16 bits
unfoldable pub decimal : ℕ → List ℕ
decimal n = digits 5 n []

-- a number of 32 bits
unfoldable pub long_decimal : ℕ → List ℕ
long_decimal n = digits 10 n []

-- each number after a space
unfoldable pub spaced : List ℕ → List ℕ
spaced [] = []
spaced (n ∷ ns) = 32 ∷ (decimal n ++ spaced ns)

-- a word with the numbers after it, to the end of the line
unfoldable pub line : String → List ℕ → List ℕ
line word ns = ascii word ++ (spaced ns ++ (10 ∷ []))

-- "Fields: …; ordinal, turn, column, height; …" "A refused piece prints `3 refused 14`"
unfoldable pub entry_line : Entry → List ℕ
entry_line e =
    decimal e.ordinal ++
    elim e.fate [
      | Placed p ↦ line " placed" (p.turn ∷ p.column ∷ p.height ∷ [])
      | Refused n ↦ line " refused" (n ∷ [])
    ]

unfoldable pub entry_lines : List Entry → List ℕ
entry_lines [] = []
entry_lines (e ∷ es) = entry_line e ++ entry_lines es

-- "Program `lay` reads a sheet from standard input (Q 4,000, work buffer 9,000 words)."
abbrev pub program_records : ℕ
program_records = 4000

abbrev pub program_work : ℕ
program_work = 9000

-- the words of the strip that it lends for this sheet
abbrev pub program_strip : List ℕ → ℕ
program_strip b = leading_words + sheet_n b + record_words * program_records

-- The last line. S-7: "Used length, of 32 bits, … replaces used columns in the answer and the last line"
unfoldable pub totals_line : Totals → List ℕ
totals_line t = ascii "used" ++ (32 ∷ (long_decimal t.used ++ line " placed" (t.placed ∷ [])))

-- What is printed for this standard input. "a refused job only `job refused 10 2` (number, ordinal or 0)"
unfoldable pub lay_text : List ℕ → List ℕ
lay_text b =
    elim (lay_answer b 0 (program_strip b) (4 * most_pieces) program_work) [
      | Ok t ↦
          line "strip" (sheet_w b ∷ sheet_r b ∷ sheet_n b ∷ []) ++
          (entry_lines (lay_entries b 0 (program_strip b) program_work) ++ totals_line t)
      | Err r ↦ line "job refused" (r.number ∷ r.ordinal ∷ [])
    ]
