-- What is known of an outline when cover comes to its cells.
-- Assumes nothing.
use Rattle.std.specs.Prelude.{◌≡◌, true, List, ℕ, ◌*◌, ◌≤◌, length, take}
use Rattle.defs.specs.Meaning.Limits.{most_gap}
use Rattle.defs.specs.Computing.Cells.{piece_runs, count_runs}
use Rattle.defs.specs.Computing.Calls.{runs_words}
use Rattle.cells.specs.Put.{Resolution}
use Rattle.defs.specs.Computing.Words.{resolutionb, gapb}
use Rattle.cover.specs.Turn.{turn_no}

-- questions 16 and 21 are passed, and 7 to 10 are
pub record CoverRuns (o : List ℕ) (t R g : ℕ) : Type 0 where
  pub resolution : resolutionb R ≡ true
  pub gap : gapb g ≡ true
  pub none_no : 0 ≡ turn_no o t

-- the runs are counted, they fit the output, and where they fit what was kept, they stand at its start
pub record Counted (o : List ℕ) (t R g k : ℕ) (kept out : List ℕ) : Type 0 where
  pub resolution : Resolution R
  pub gap : g ≤ most_gap
  pub count : k ≡ count_runs (piece_runs o t R g)
  pub fits : 3 * k ≤ length out
  pub kept_long : length kept ≡ 1536
  pub kept_runs : 3 * k ≤ 1536 → take (3 * k) kept ≡ runs_words 0 (piece_runs o t R g)
