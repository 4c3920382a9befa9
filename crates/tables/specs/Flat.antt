-- A table of runs laid flat in three arrays: `first` has, for each column, the place of its first run, and one word more, the number of
-- runs; `lows` and `highs` have the runs, by column then low. The form in which the program searches and enters.
-- Assumes nothing.
use Rattle.std.specs.Prelude.{◌≡◌, List, ℕ, ◌+◌, ◌-◌, ◌≤◌, ◌<◌, length, get_or}
use Rattle.defs.specs.Computing.Test.{list_from}
use Rattle.defs.specs.Computing.Cells.{Rows}
use Rattle.runs.specs.Runs.{Holds, Apart}

-- run i
abbrev pub row_at : List ℕ → List ℕ → ℕ → Rows
row_at l h i = record { low = get_or l i 0; high = get_or h i 0 }

-- the n runs from run i on
unfoldable pub rows_from : List ℕ → List ℕ → ℕ → ℕ → List Rows
rows_from l h i n = list_from (row_at l h) i n

-- the runs of column k
abbrev pub rows_in : List ℕ → List ℕ → List ℕ → ℕ → List Rows
rows_in f l h k = rows_from l h (get_or f k 0) (get_or f (k + 1) 0 - get_or f k 0)

-- the table of N columns
unfoldable pub table_of : List ℕ → List ℕ → List ℕ → ℕ → List (List Rows)
table_of f l h N = list_from (rows_in f l h) 0 N

-- the arrays have room for N columns and t runs, and the places rise from 0 to t
pub record Flat (f l h : List ℕ) (N t : ℕ) : Type 0 where
  pub firsts : N < length f
  pub lows : t ≤ length l
  pub highs : t ≤ length h
  pub start : get_or f 0 0 ≡ 0
  pub rise : (k : ℕ) → k < N → get_or f k 0 ≤ get_or f (k + 1) 0
  pub last : get_or f N 0 ≡ t

-- row y of column k is occupied
abbrev pub Occupied : List ℕ → List ℕ → List ℕ → ℕ → ℕ → Type 0
Occupied f l h k y = Holds l h (get_or f k 0) (get_or f (k + 1) 0) y

-- a table laid flat whose runs are those of N columns of width W
pub record Laid (f l h : List ℕ) (W N t : ℕ) : Type 0 where
  pub flat : Flat f l h N t
  pub runs : (k : ℕ) → k < N → Apart l h (get_or f k 0) (get_or f (k + 1) 0)
  pub within : (k y : ℕ) → k < N → Occupied f l h k y → y < W
