-- S-6: "cells are to be worked out from vertices read through the turn, with no turned outline written out anywhere." What is read of a
-- vertex, from two words of the lent outline, is `read_x` and `read_y` (Computing/Vertices of defs): the contracts of outline::x_at and
-- outline::y_at, which read every vertex of a turned outline that cells, question 10 and pictures are worked out from. Assumes nothing.
use Rattle.std.specs.Prelude.{◌≡◌, List, ℕ, ◌≤◌, ◌<◌}
use Rattle.defs.specs.Meaning.Limits.{most_turn}
use Rattle.defs.specs.Meaning.Outline.{vx, vy, sides}
use Rattle.defs.specs.Meaning.Turn.{turned}
use Rattle.defs.specs.Computing.Vertices.{read_x, read_y}

-- "For each outline, turn and vertex, what is read is proved equal to that vertex of the turned outline in document 01." Whatever the
-- questions say of the outline: of any length and with any coordinates.
pub record Vertices_read : Type 0 where
  pub x_read : (o : List ℕ) (t i : ℕ) → t ≤ most_turn → i < sides o → read_x o t i ≡ vx (turned o t) i
  pub y_read : (o : List ℕ) (t i : ℕ) → t ≤ most_turn → i < sides o → read_y o t i ≡ vy (turned o t) i
  -- the turned outline has as many vertices, and no more
  pub as_many : (o : List ℕ) (t : ℕ) → sides (turned o t) ≡ sides o
