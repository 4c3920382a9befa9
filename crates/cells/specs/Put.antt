-- What is written of an outline's runs.
-- Assumes nothing.
use Rattle.std.specs.Prelude.{◌≡◌, List, ℕ, ◌*◌, ◌≤◌, length}
use Rattle.std.proofs.lemmas.List.Edits.{sets}
use Rattle.defs.specs.Computing.Cells.{piece_runs, count_runs}
use Rattle.defs.specs.Computing.Calls.{runs_words}

pub record Resolution (R : ℕ) : Type 0 where
  pub least : 1 ≤ R
  pub most : R ≤ 400

-- k is the number of runs; where all of them fit, they stand at the start of the output, and the rest is kept
pub record PutRuns (o : List ℕ) (t R g : ℕ) (out out' : List ℕ) (k : ℕ) : Type 0 where
  pub count : k ≡ count_runs (piece_runs o t R g)
  pub written : 3 * k ≤ length out → out' ≡ sets out 0 (runs_words 0 (piece_runs o t R g))
  pub long : length out' ≡ length out
