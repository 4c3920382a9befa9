-- An outline of whole vertices, whose path has room in an output. Assumes nothing.
use Rattle.std.specs.Prelude.{◌≡◌, List, ℕ, ◌*◌, ◌/◌, ◌≤◌, length}
use Rattle.pathdefs.specs.Meaning.Path.{path_size}

pub record PathFits (o out : List ℕ) : Type 0 where
  pub even : length o ≡ 2 * (length o / 2)
  pub least : 3 ≤ length o / 2
  pub most : length o / 2 ≤ 64
  pub room : path_size o ≤ length out
