-- What is printed of a vertex.
-- Assumes nothing.
use Rattle.std.specs.Prelude.{List, ◌∷◌, ◌++◌, ℕ}
use Rattle.defs.specs.Computing.Text.{decimal}

-- a space, x, a comma, y
abbrev pub vertex_text : ℕ → ℕ → List ℕ
vertex_text x y = 32 ∷ (decimal x ++ (44 ∷ decimal y))
