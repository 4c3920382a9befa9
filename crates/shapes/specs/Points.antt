-- The vertices that a picture shows. Assumes nothing.
use Rattle.std.specs.Prelude.{◌≡◌, List, ℕ}
use Rattle.defs.specs.declared.Position.{Position}
use Rattle.defs.specs.Meaning.Outline.{vx, vy}
use Rattle.defs.specs.Meaning.Placing.{moved}

-- x, y is vertex i of "the moved piece"
pub record PointOf (o : List ℕ) (R : ℕ) (p : Position) (i x y : ℕ) : Type 0 where
  pub across : x ≡ vx (moved R o p) i
  pub up : y ≡ vy (moved R o p) i
