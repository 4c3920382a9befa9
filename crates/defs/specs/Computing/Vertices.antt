-- What is read of an outline in a turn. S-6: "cells are to be worked out from vertices read through the turn, with no turned outline
-- written out anywhere". A turn takes one corner of the outline's bounds to (0, 0), and each vertex to its distances from that corner: x of
-- the turned vertex is the distance of one word of the outline, y that of the other. Assumes nothing.
use Rattle.std.specs.Prelude.{List, ℕ, zero, suc, ◌+◌, ◌*◌, ◌-◌, ◌%◌, min, max, get_or}
use Rattle.defs.specs.Meaning.Outline.{vx, vy, sides}

-- the least and the greatest of f 0 .. f n
unfoldable pub least_n : (ℕ → ℕ) → ℕ → ℕ
least_n f zero = f zero
least_n f (suc n) = min (least_n f n) (f (suc n))

unfoldable pub most_n : (ℕ → ℕ) → ℕ → ℕ
most_n f zero = f zero
most_n f (suc n) = max (most_n f n) (f (suc n))

-- the bounds of an outline: its least and greatest x and y
abbrev pub left_of : List ℕ → ℕ
left_of o = least_n (vx o) (sides o - 1)

abbrev pub right_of : List ℕ → ℕ
right_of o = most_n (vx o) (sides o - 1)

abbrev pub foot_of : List ℕ → ℕ
foot_of o = least_n (vy o) (sides o - 1)

abbrev pub head_of : List ℕ → ℕ
head_of o = most_n (vy o) (sides o - 1)

-- the corner that turn t (0 to 3) takes to (0, 0): from which bound the turned x is counted, and from which the turned y
unfoldable pub corner_x : List ℕ → ℕ → ℕ
corner_x o zero = left_of o
corner_x o (suc zero) = head_of o
corner_x o (suc (suc zero)) = right_of o
corner_x o (suc (suc (suc t))) = foot_of o

unfoldable pub corner_y : List ℕ → ℕ → ℕ
corner_y o zero = foot_of o
corner_y o (suc zero) = left_of o
corner_y o (suc (suc zero)) = head_of o
corner_y o (suc (suc (suc t))) = right_of o

abbrev pub distance : ℕ → ℕ → ℕ
distance a b = (a - b) + (b - a)

-- What is read of vertex i in turn t: an odd turn takes x from the vertex's second word and y from its first.
unfoldable pub read_x : List ℕ → ℕ → ℕ → ℕ
read_x o t i = distance (corner_x o t) (get_or o (2 * i + t % 2) 0)

unfoldable pub read_y : List ℕ → ℕ → ℕ → ℕ
read_y o t i = distance (corner_y o t) (get_or o (2 * i + (1 - t % 2)) 0)
