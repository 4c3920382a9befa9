-- "Placing" of document 01: positions, what is free, and which position is best. Assumes nothing.
use Rattle.std.specs.Prelude.{◌≡◌, ◌⊎◌, ◌≢◌, List, ℕ, ◌+◌, ◌*◌, ◌-◌, ◌/◌, ◌≤◌, ◌<◌}
use Rattle.defs.specs.declared.Position.{Position}
use Rattle.defs.specs.Meaning.Outline.{vx, vy, sides}
use Rattle.defs.specs.Meaning.Turn.{turned, extent_x, extent_y, outline_from, Allows}
use Rattle.defs.specs.Meaning.Cell.{CoveredGap, Cells, Counting}

-- "w/R rounded up"
abbrev pub columns_for : ℕ → ℕ → ℕ
columns_for w R = (w + (R - 1)) / R

-- "A position is turn, column c, height y, c and y at least 0, with c + w/R rounded up ≤ N and y + h ≤ W."
pub record OnStrip (W R N : ℕ) (o : List ℕ) (p : Position) : Type 0 where
  pub columns : p.column + columns_for (extent_x o p.turn) R ≤ N
  pub rows : p.height + extent_y o p.turn ≤ W

-- The cells of an outline in turn t, with the gap g of S-4: "In demands 2 and 3 a piece's cells are from here on the new ones".
abbrev pub cells_in : ℕ → ℕ → List ℕ → ℕ → Cells
cells_in R g o t = CoveredGap (turned o t) R g

-- "The moved piece is the outline in that turn, shifted right by cR units and up by y."
unfoldable pub moved : ℕ → List ℕ → Position → List ℕ
moved R o p =
    let v = turned o p.turn in
    outline_from (λ i. vx v i + p.column * R) (λ i. vy v i + p.height) 0 (sides o)

-- The cells of the moved piece that count on the strip.
abbrev pub cells_at : ℕ → ℕ → ℕ → ℕ → List ℕ → Position → Cells
cells_at W R N g o p = Counting W N (CoveredGap (moved R o p) R g)

-- "A position is free if no covered cell of the moved piece is occupied."
unfoldable pub Free : Cells → ℕ → ℕ → ℕ → ℕ → List ℕ → Position → Type 0
Free Occupied W R N g o p = (i j : ℕ) → cells_at W R N g o p i j → ¬ Occupied i j

-- A position in an allowed turn that stays on the strip and is free. S-4: "extents stay those of the outline".
pub record Fits (W R N g : ℕ) (Occupied : Cells) (o : List ℕ) (mask : ℕ) (p : Position) : Type 0 where
  pub allowed : Allows mask p.turn
  pub on_strip : OnStrip W R N o p
  pub free : Free Occupied W R N g o p

-- "Last column is c + (w/R rounded up) − 1; top is y + h." One more than the last column:
unfoldable pub end_column : ℕ → List ℕ → Position → ℕ
end_column R o p = p.column + columns_for (extent_x o p.turn) R

unfoldable pub top : List ℕ → Position → ℕ
top o p = p.height + extent_y o p.turn

-- S-7: "The right edge of a position is column × R + w."
unfoldable pub right_edge : ℕ → List ℕ → Position → ℕ
right_edge R o p = p.column * R + extent_x o p.turn

-- S-7: "Among turns the least right edge wins, then least top, then least turn": q comes later than p, a rival position. Within one
-- turn, where w and h are fixed, that is the order of (c, y).
unfoldable pub Later : ℕ → List ℕ → Position → Position → Type 0
Later R o p q =
    (right_edge R o p < right_edge R o q) ⊎
    ((right_edge R o p ≡ right_edge R o q) × (top o p < top o q)) ⊎
    ((right_edge R o p ≡ right_edge R o q) × (top o p ≡ top o q) × (p.turn < q.turn))

-- "Each turn takes its least free (c, y)"; "Among turns the least right edge wins, then least top, then least turn": every
-- other position that fits comes later.
pub record Best (W R N g : ℕ) (Occupied : Cells) (o : List ℕ) (mask : ℕ) (p : Position) : Type 0 where
  pub fits : Fits W R N g Occupied o mask p
  pub first : (q : Position) → Fits W R N g Occupied o mask q → q ≢ p → Later R o p q

-- "A cell is occupied there if it is covered for a piece placed by an earlier call of the list": call m has placed its outline
-- at p when Places m p.
pub record OccupiedBefore (W R N g : ℕ) (outline : ℕ → List ℕ) (Places : ℕ → Position → Type 0) (m i j : ℕ) : Type 0 where
  pub earlier : ℕ
  pub is_earlier : earlier < m
  pub position : Position
  pub places : Places earlier position
  pub covered : cells_at W R N g (outline earlier) position i j

-- The same over lists of calls of several kinds: Lies l o p says that the piece of call l, outline o at p, is on the strip.
pub record OccupiedBy (W R N g : ℕ) (Lies : ℕ → List ℕ → Position → Type 0) (i j : ℕ) : Type 0 where
  pub call : ℕ
  pub outline : List ℕ
  pub position : Position
  pub lies : Lies call outline position
  pub covered : cells_at W R N g outline position i j
