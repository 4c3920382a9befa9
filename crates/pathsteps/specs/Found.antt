-- The step at a byte of a path, and the units of its coordinates. Assumes nothing.
use Rattle.std.specs.Prelude.{cond, ◌&&◌, List, ℕ, ◌+◌, ◌≤◌, ◌<◌, leb, ltb, eqb, length, get_or, Float, Option, Some, None}
use Rattle.std.specs.Float.{binary32}
use Rattle.std.specs.Float.Ieee.{of_bits}
use Rattle.defs.specs.Computing.Test.{ask}
use Rattle.pathdefs.specs.declared.Point.{Point}
use Rattle.pathdefs.specs.declared.Step.{Step}
use Rattle.pathdefs.specs.declared.Step.TheVariants.{Move, Line, Close}
use Rattle.pathdefs.specs.Meaning.Path.{step_bytes}
use Rattle.pathdefs.specs.Computing.Paths.{bits_at, units_of, acceptedb}
use Rattle.millimetres.specs.Exact.{units_in}

abbrev pub float_at : List ℕ → ℕ → Float
float_at b at = of_bits binary32 (bits_at b at)

abbrev pub point_at : List ℕ → ℕ → Point
point_at b at = record { x = float_at b at; y = float_at b (at + 4) }

unfoldable pub step_at : List ℕ → ℕ → Option Step
step_at b at =
    ask (ltb at (length b)) None λ _.
    cond (eqb (get_or b at 0) 3) (Some Close)
    (ask (leb (at + step_bytes) (length b)) None λ _.
    cond (eqb (get_or b at 0) 1) (Some (Move (float_at b (at + 1)) (float_at b (at + 1 + 4))))
    (cond (eqb (get_or b at 0) 2) (Some (Line (float_at b (at + 1)) (float_at b (at + 1 + 4)))) None))

abbrev pub kind_of : Step → ℕ
kind_of (Move x y) = 1
kind_of (Line x y) = 2
kind_of Close = 3

-- both are accepted, or none
abbrev pub vertex_by : Option ℕ → Option ℕ → Option (ℕ × ℕ)
vertex_by (Some x) (Some y) = Some (x, y)
vertex_by (Some x) None = None
vertex_by None b = None

abbrev pub vertex_of : Float → Float → Option (ℕ × ℕ)
vertex_of x y = vertex_by (units_in x) (units_in y)

abbrev pub vertex_in : Step → Option (ℕ × ℕ)
vertex_in (Move x y) = vertex_of x y
vertex_in (Line x y) = vertex_of x y
vertex_in Close = None

abbrev pub vertex_found : Option Step → Option (ℕ × ℕ)
vertex_found (Some s) = vertex_in s
vertex_found None = None

abbrev pub kind_in : Option Step → ℕ
kind_in (Some s) = kind_of s
kind_in None = 0

abbrev pub kind_at : List ℕ → ℕ → ℕ
kind_at b at = kind_in (step_at b at)

-- a move or a line, with its coordinates
pub record VertexStep (b : List ℕ) (at : ℕ) : Type 0 where
  pub whole : at + step_bytes ≤ length b
  pub least : 0 < get_or b at 0
  pub most : get_or b at 0 < 3

-- the vertex of the move or the line with which these bytes begin
unfoldable pub vertex_here : List ℕ → Option (ℕ × ℕ)
vertex_here b =
    ask (acceptedb (bits_at b 1) && acceptedb (bits_at b 5)) None λ _.
    Some ((units_of (bits_at b 1)), (units_of (bits_at b 5)))
