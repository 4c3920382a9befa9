-- What the answer to some questions on an outline says: a number, or the bounds of the outline. Assumes nothing.
use Rattle.std.specs.Prelude.{◌≡◌, List, ℕ, ◌<◌, Result, Ok, Err}
use Rattle.outline.specs.declared.Bounds.{Bounds}
use Rattle.defs.specs.Computing.Test.{ask}
use Rattle.defs.specs.Computing.Calls.{q7b, q8b}
use Rattle.outline.specs.Vertex.{BoundsOf}

-- the first of 7 and 8 that gets "no", else 0
unfoldable pub bounds_no : List ℕ → ℕ
bounds_no o = ask (q7b o) 7 λ _. ask (q8b o) 8 λ _. 0

-- of questions of which n is the first that gets "no", or 0 if none does
abbrev pub Says : List ℕ → ℕ → Result Bounds ℕ → Type 0
Says o n (Err k) = (k ≡ n) × (0 < k)
Says o n (Ok b) = (n ≡ 0) × BoundsOf o b
