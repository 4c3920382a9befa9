-- What the outline's functions ask and promise.
-- Assumes nothing.
use Rattle.std.specs.Prelude.{◌≡◌, List, ℕ, ◌*◌, ◌%◌, ◌≤◌, length, get_or}
use Rattle.defs.specs.Meaning.Outline.{vx, vy, sides, Edge, edge_at}
use Rattle.defs.specs.Meaning.Turn.{turned}
use Rattle.defs.specs.Computing.Vertices.{left_of, right_of, foot_of, head_of, corner_x, corner_y}
use Rattle.outline.specs.declared.Bounds.{Bounds}
use Rattle.outline.specs.declared.Frame.{Frame}

-- An outline that passes 7 and 8.
pub record Lent (o : List ℕ) : Type 0 where
  pub even : length o ≡ 2 * sides o
  pub some : 3 ≤ sides o
  pub few : sides o ≤ 64
  pub small : (i : ℕ) → get_or o i 0 ≤ 16000

pub record BoundsOf (o : List ℕ) (b : Bounds) : Type 0 where
  pub left : b.left ≡ left_of o
  pub right : b.right ≡ right_of o
  pub foot : b.foot ≡ foot_of o
  pub head : b.head ≡ head_of o

-- how the frame's turn reads the outline: the corner of the bounds that it takes to (0, 0), and which word of a vertex lies across
pub record FrameOf (o : List ℕ) (f : Frame) : Type 0 where
  pub turn : f.turn ≤ 3
  pub x : f.x ≡ corner_x o f.turn
  pub y : f.y ≡ corner_y o f.turn
  pub word : f.word ≡ f.turn % 2

-- vertex i of the turned outline, within the limits
pub record VertexOf (o : List ℕ) (t i x y : ℕ) : Type 0 where
  pub across : x ≡ vx (turned o t) i
  pub up : y ≡ vy (turned o t) i
  pub x_most : x ≤ 16000
  pub y_most : y ≤ 16000

abbrev pub edge_of : ℕ → ℕ → ℕ → ℕ → Edge
edge_of xl yl xr yr = record { xl = xl; yl = yl; xr = xr; yr = yr }

-- edge i of the turned outline, the left end first
pub record SideOf (o : List ℕ) (t i xl yl xr yr : ℕ) : Type 0 where
  pub is : edge_of xl yl xr yr ≡ edge_at (turned o t) i
  pub order : xl ≤ xr
  pub right_most : xr ≤ 16000
  pub yl_most : yl ≤ 16000
  pub yr_most : yr ≤ 16000

-- an edge within the limits
pub record Small (xl yl xr yr : ℕ) : Type 0 where
  pub order : xl ≤ xr
  pub right_most : xr ≤ 16000
  pub yl_most : yl ≤ 16000
  pub yr_most : yr ≤ 16000
