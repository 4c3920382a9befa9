-- The questions that cover asks before it looks at cells.
-- Assumes nothing.
use Rattle.std.specs.Prelude.{List, ℕ, leb}
use Rattle.defs.specs.Meaning.Limits.{most_turn}
use Rattle.defs.specs.Meaning.Turn.{turned, extent_x}
use Rattle.defs.specs.Computing.Test.{ask}
use Rattle.defs.specs.Computing.Cells.{keeps_orderb}
use Rattle.defs.specs.Computing.Calls.{q7b, q8b}

-- the first of 7 to 10 that gets "no" in turn t, else 0
unfoldable pub turn_no : List ℕ → ℕ → ℕ
turn_no o t =
    ask (q7b o) 7 λ _.
    ask (q8b o) 8 λ _.
    ask (leb t most_turn) 9 λ _.
    ask (keeps_orderb (turned o t) (extent_x o t)) 10 λ _.
    0
