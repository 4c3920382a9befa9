-- A cell in a turn.
-- Assumes nothing.
use Rattle.std.specs.Prelude.{Bool, List, ℕ, ◌+◌, ◌*◌, ◌≤◌, ◌<◌, get_or}
use Rattle.defs.specs.Computing.Cells.{piece_runs, count_runs}
use Rattle.laws.proofs.Tests.{Decides}

-- of m entries of a slab the second is above the first, whose left height is below 16,000
pub record LowestApart (h0 h1 w : List ℕ) (m : ℕ) : Type 0 where
  pub two : 2 ≤ m
  pub low : get_or h0 0 0 < 16000 * get_or w 0 0
  pub apart : (get_or h0 0 0 + get_or h1 0 0) * get_or w 1 0 < (get_or h0 1 0 + get_or h1 1 0) * get_or w 0 0

-- turn t has a run
pub record HasCell (o : List ℕ) (t : ℕ) (r : Bool) : Type 0 where
  pub every : (R : ℕ) → 1 ≤ R → Decides r (0 < count_runs (piece_runs o t R 0))
