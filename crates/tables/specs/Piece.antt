-- The runs of a piece, three words each, by column then low, at the start of a buffer. Assumes nothing.
use Rattle.std.specs.Prelude.{◌≡◌, List, ℕ, ◌+◌, ◌*◌, ◌≤◌, ◌<◌, length, get_or, take}
use Rattle.defs.specs.Computing.Cells.{Rows, count_runs}
use Rattle.defs.specs.Computing.Calls.{runs_words}

abbrev pub run_column : List ℕ → ℕ → ℕ
run_column r k = get_or r (3 * k) 0

abbrev pub run_low : List ℕ → ℕ → ℕ
run_low r k = get_or r (3 * k + 1) 0

abbrev pub run_high : List ℕ → ℕ → ℕ
run_high r k = get_or r (3 * k + 2) 0

-- the p runs of a piece stand at the start of r
pub record Stands (piece : List (List Rows)) (r : List ℕ) (p : ℕ) : Type 0 where
  pub count : p ≡ count_runs piece
  pub long : 3 * p ≤ length r
  pub words : take (3 * p) r ≡ runs_words 0 piece

-- row y of column i is in one of the runs k to e - 1
pub record RunHolds (r : List ℕ) (k e i y : ℕ) : Type 0 where
  pub which : ℕ
  pub from : k ≤ which
  pub to : which < e
  pub column : run_column r which ≡ i
  pub low : run_low r which ≤ y
  pub high : y < run_high r which

-- p runs with rows, in w columns and t rows, by column
pub record PieceRuns (r : List ℕ) (p w t : ℕ) : Type 0 where
  pub long : 3 * p ≤ length r
  pub wide : (k : ℕ) → k < p → run_column r k < w
  pub some : (k : ℕ) → k < p → run_low r k < run_high r k
  pub tall : (k : ℕ) → k < p → run_high r k ≤ t
  pub order : (k m : ℕ) → k < m → m < p → run_column r k ≤ run_column r m
