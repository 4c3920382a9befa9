-- Rows of the points that bound an inside: those of a square's lower and left side, and none of a spur's. Each is proved by computation.
-- Assumes nothing.
use mathlib.Core.Path.{◌≡◌, refl}
use mathlib.Core.Bool.{xor}
use mathlib.Core.List.{List, [], ◌∷◌}
use Prim.Native.Nat.{ℕ}
use native.Mathlib.Omega.{arith}
use Rattle.defs.specs.Meaning.Outline.{edge_at, sides, height, passes_through, count_to}
use Rattle.knife.specs.Knife.{EdgePoint, RisePoint, passes_up}

-- a square of 4, and the same with a spur from (4, 4) to (8, 4) and back
abbrev square : List ℕ
square = 0 ∷ 0 ∷ 4 ∷ 0 ∷ 4 ∷ 4 ∷ 0 ∷ 4 ∷ []

abbrev spurred : List ℕ
spurred = 0 ∷ 0 ∷ 4 ∷ 0 ∷ 4 ∷ 4 ∷ 8 ∷ 4 ∷ 4 ∷ 4 ∷ 0 ∷ 4 ∷ []

-- the lower side at x = 1/2, and the left one at y = 1
row_edge : EdgePoint square 1 0 2
unfolding count_to passes_through edge_at height
row_edge = record { point = omega arith; between = omega arith; odd = refl }

row_rise : RisePoint square 0 1 1
unfolding count_to passes_up edge_at xor
row_rise = record { point = omega arith; odd = refl }

-- both edges of the spur pass through its middle
spur_twice : count_to (λ i. passes_through 11 8 2 (edge_at spurred i)) (sides spurred) ≡ 2
unfolding count_to passes_through edge_at height
spur_twice = refl

row_spur : ¬ EdgePoint spurred 11 8 2
row_spur e = omega (arith, e.odd, spur_twice)
