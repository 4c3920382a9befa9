-- The runs of one column, and what is written of them.
-- Assumes nothing.
use Rattle.std.specs.Prelude.{◌≡◌, List, [], ℕ, ◌+◌, ◌*◌, ◌≤◌, length, get_or}
use Rattle.std.proofs.lemmas.List.Edits.{sets}
use Rattle.defs.specs.Meaning.Turn.{turned, extent_y}
use Rattle.defs.specs.Computing.Test.{list_from}
use Rattle.defs.specs.Computing.Cells.{Rows, coveredb, stretches}
use Rattle.defs.specs.Computing.Calls.{rows_words}

-- run k of those that l and h hold
abbrev pub pair_at : List ℕ → List ℕ → ℕ → Rows
pair_at l h k = record { low = get_or l k 0; high = get_or h k 0 }

abbrev pub pairs : List ℕ → List ℕ → ℕ → List Rows
pairs l h n = list_from (pair_at l h) 0 n

-- n runs, and room for their words from word `at` of the output
pub record ColumnFits (l h : List ℕ) (n : ℕ) (out : List ℕ) (at : ℕ) : Type 0 where
  pub lows : n ≤ length l
  pub highs : n ≤ length h
  pub room : at + 3 * n ≤ length out

-- r counts the runs of column i too; where the words of all r runs fit, those of the column are stored after k runs
pub record PutColumn (i : ℕ) (rs : List Rows) (out out' : List ℕ) (k r : ℕ) : Type 0 where
  pub count : r ≡ k + length rs
  pub written : 3 * r ≤ length out → out' ≡ sets out (3 * k) (rows_words i rs)
  pub long : length out' ≡ length out

-- the runs of column i
unfoldable pub column_runs : List ℕ → ℕ → ℕ → ℕ → ℕ → List Rows
column_runs o t R g i = stretches (coveredb (turned o t) R g i) (extent_y o t + g) []
