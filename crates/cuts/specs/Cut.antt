-- Where a slab may end.
-- Assumes nothing.
use Rattle.std.specs.Prelude.{List, ℕ, ◌<◌}
use Rattle.entries.specs.Edges.{NextAt}

-- where a slab from a may end: not beyond the next vertex
pub record CutAt (v : List ℕ) (a n r : ℕ) : Type 0 where
  pub more : a < r
  pub next : NextAt v a n r
