-- A vertex in a turn, as tests call it. Assumes nothing.
use Rattle.std.specs.Prelude.{List, ℕ, ◌+◌, ◌*◌, leb, ltb}
use Rattle.defs.specs.Meaning.Limits.{most_turn}
use Rattle.defs.specs.Meaning.Outline.{sides}
use Rattle.defs.specs.Computing.Test.{ask}
use Rattle.defs.specs.Computing.Vertices.{read_x, read_y}

-- y and x, 16 bits each, or 2 ^ 32
unfoldable pub vertex_answer : List ℕ → ℕ → ℕ → ℕ
vertex_answer o t i =
    ask (leb t most_turn) 4294967296 λ _.
    ask (ltb i (sides o)) 4294967296 λ _.
    65536 * read_y o t i + read_x o t i
