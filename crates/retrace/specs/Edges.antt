-- What the functions of the retrace call promise. Assumes nothing.
use Rattle.std.specs.Prelude.{◌≡◌, List, ℕ, ◌<◌, Option, Some, None}
use Rattle.defs.specs.Meaning.Outline.{edge_at, sides}
use Rattle.outline.specs.Vertex.{Small, edge_of}
use Rattle.strokes.specs.Retrace.{shared_after}

-- edge i of the outline as it is lent, the left end first
pub record EdgeIs (o : List ℕ) (i xl yl xr yr : ℕ) : Type 0 where
  pub is : edge_of xl yl xr yr ≡ edge_at o i
  pub small : Small xl yl xr yr

-- the first later edge that shares a stretch with edge i
abbrev pub After : List ℕ → ℕ → Option ℕ → Type 0
After o i (Some j) = (shared_after o i ≡ Some j) × (j < sides o)
After o i None = shared_after o i ≡ None
