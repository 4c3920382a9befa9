-- Rows covered in some unit columns, and rows with g rows above each of them. Assumes nothing.
use Rattle.std.specs.Prelude.{List, ℕ, ◌+◌, ◌≤◌, ◌<◌}
use Rattle.defs.specs.Meaning.Cell.{Covered}

-- row j is covered in a unit column from a to b
pub record InUnits (v : List ℕ) (a b j : ℕ) : Type 0 where
  pub k : ℕ
  pub from : a ≤ k
  pub to : k < b
  pub there : Covered v 1 k j

-- row j is a row of P, or lies at most g rows above one
pub record Raised (g : ℕ) (P : ℕ → Type 0) (j : ℕ) : Type 0 where
  pub row : ℕ
  pub holds : P row
  pub below : row ≤ j
  pub rows : j ≤ row + g
