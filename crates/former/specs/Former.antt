-- Cells and free positions as they were before request S-4, and the best of them, for "With g = 0 every position is the former one." Only
-- the gap is left out: which free position is best goes by S-7's order here too. Assumes nothing.
use Rattle.std.specs.Prelude.{Bool, List, [], ◌≢◌, ℕ, ◌+◌, ◌*◌}
use Rattle.defs.specs.declared.Position.{Position}
use Rattle.defs.specs.Meaning.Outline.{sides}
use Rattle.defs.specs.Meaning.Turn.{turned, extent_x, extent_y, Allows}
use Rattle.defs.specs.Meaning.Cell.{Covered, Cells}
use Rattle.defs.specs.Meaning.Placing.{columns_for, moved, OnStrip, Later}
use Rattle.defs.specs.Computing.Test.{any_to, list_from}
use Rattle.defs.specs.Computing.Cells.{Rows, opens, stretches}

-- the cells of the moved piece
abbrev pub former_cells : ℕ → List ℕ → Position → Cells
former_cells R o p = Covered (moved R o p) R

pub record FormerFits (W R N : ℕ) (Occupied : Cells) (o : List ℕ) (mask : ℕ) (p : Position) : Type 0 where
  pub allowed : Allows mask p.turn
  pub on_strip : OnStrip W R N o p
  pub free : (i j : ℕ) → former_cells R o p i j → ¬ Occupied i j

pub record FormerBest (W R N : ℕ) (Occupied : Cells) (o : List ℕ) (mask : ℕ) (p : Position) : Type 0 where
  pub fits : FormerFits W R N Occupied o mask p
  pub first : (q : Position) → FormerFits W R N Occupied o mask q → q ≢ p → Later R o p q

-- Lies l o p: the piece of call l, outline o at p, is on the strip.
pub record FormerOccupied (R : ℕ) (Lies : ℕ → List ℕ → Position → Type 0) (i j : ℕ) : Type 0 where
  pub call : ℕ
  pub outline : List ℕ
  pub position : Position
  pub lies : Lies call outline position
  pub covered : former_cells R outline position i j

-- the computed test and the runs
unfoldable pub former_coveredb : List ℕ → ℕ → ℕ → ℕ → Bool
former_coveredb v R i j = any_to (λ k. any_to (opens v (i * R + k) j) (sides v)) R

unfoldable pub former_runs : List ℕ → ℕ → ℕ → List (List Rows)
former_runs o t R =
    let v = turned o t in
    list_from (λ i. stretches (former_coveredb v R i) (extent_y o t) []) 0 (columns_for (extent_x o t) R)
