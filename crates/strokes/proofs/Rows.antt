-- Rows of the retrace call, each proved by computation. Assumes nothing.
use mathlib.Core.Path.{◌≡◌, refl}
use mathlib.Core.List.{[], ◌∷◌}
use Prim.Native.Nat.{ℕ}
use Rattle.std.specs.Prelude.{Option, Some, None, Result, Ok, Err}
use Rattle.defs.specs.declared.EdgePair.{EdgePair}
use Rattle.defs.specs.declared.Refusal.{Refusal}
use Rattle.defs.specs.Computing.Calls.{refusal}
use Rattle.defs.specs.Computing.Runs.{runs}
use Rattle.strokes.specs.Retrace.{rise_alike, level, run_along, stand_along, sharesb, shared_after, first_pair, retrace_answer}

-- a line `unfolding computes` opens the definitions of the call
computes : Unit {0}
unfolding runs retrace_answer first_pair shared_after sharesb run_along stand_along rise_alike level
computes = tt

abbrev twice : ℕ → ℕ → Result (Option EdgePair) Refusal
twice i j = Ok (Some (record { first = i; second = j }))

-- a square of 4
row_square : retrace_answer (0 ∷ 0 ∷ 4 ∷ 0 ∷ 4 ∷ 4 ∷ 0 ∷ 4 ∷ []) ≡ Ok None
unfolding computes
row_square = refl

-- with a spur from (4, 4) to (8, 4) and back, and with one from (4, 4) up to (4, 8), above a side that ends there
row_spur : retrace_answer (0 ∷ 0 ∷ 4 ∷ 0 ∷ 4 ∷ 4 ∷ 8 ∷ 4 ∷ 4 ∷ 4 ∷ 0 ∷ 4 ∷ []) ≡ twice 3 4
unfolding computes
row_spur = refl

row_spur_up : retrace_answer (0 ∷ 0 ∷ 4 ∷ 0 ∷ 4 ∷ 4 ∷ 4 ∷ 8 ∷ 4 ∷ 4 ∷ 0 ∷ 4 ∷ []) ≡ twice 3 4
unfolding computes
row_spur_up = refl

-- a side of 6 of which 4 are drawn back
row_part : retrace_answer (0 ∷ 0 ∷ 6 ∷ 0 ∷ 2 ∷ 0 ∷ 2 ∷ 4 ∷ []) ≡ twice 1 2
unfolding computes
row_part = refl

-- the least first edge counts, not the least second
row_order : retrace_answer (0 ∷ 0 ∷ 4 ∷ 2 ∷ 8 ∷ 4 ∷ 4 ∷ 2 ∷ []) ≡ twice 1 4
unfolding computes
row_order = refl

-- two vertices; a coordinate past 16,000
row_7 : retrace_answer (0 ∷ 0 ∷ 4 ∷ 0 ∷ []) ≡ Err (refusal 7 1)
unfolding computes
row_7 = refl

row_8 : retrace_answer (0 ∷ 0 ∷ 16001 ∷ 0 ∷ 0 ∷ 4 ∷ []) ≡ Err (refusal 8 1)
unfolding computes
row_8 = refl
