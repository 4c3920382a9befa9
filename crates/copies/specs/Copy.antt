-- What makes a piece of a sheet a copy of another. Assumes nothing.
use Rattle.std.specs.Prelude.{◌≡◌, Bool, true, List, ℕ, ◌+◌, ◌≤◌, ◌<◌}
use Rattle.defs.specs.Meaning.Limits.{most_vertices}
use Rattle.defs.specs.Meaning.Sheet.{vertex_words}
use Rattle.defs.specs.Computing.Test.{chain_by}
use Rattle.defs.specs.Computing.Sheets.{piece_of}
use Rattle.records.specs.Records.{next_vertex}

-- the x, y pairs of the chain from vertex record x, at most n of them
abbrev pub words_from : List ℕ → ℕ → ℕ → List ℕ
words_from b n x = vertex_words b (chain_by (next_vertex b) n x)

-- "yes" says that the chains from vertex records x and y have the same vertices
pub record SameVertices (b : List ℕ) (x y : ℕ) (a : Bool) : Type 0 where
  pub same : a ≡ true → words_from b (most_vertices + 1) x ≡ words_from b (most_vertices + 1) y

-- piece record `at` is a copy of piece record `last`
pub record Copy (b : List ℕ) (last at : ℕ) : Type 0 where
  pub outline : (piece_of b last).outline ≡ (piece_of b at).outline
  pub mask : (piece_of b last).mask ≡ (piece_of b at).mask

-- a right edge up to `lower`, and 0 but for a copy
pub record StartsAt (b : List ℕ) (last at lower start : ℕ) : Type 0 where
  pub most : start ≤ lower
  pub copy : 0 < start → Copy b last at
