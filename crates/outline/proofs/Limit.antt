-- The vertices of a turned outline, and so its extent, are at most 16,000: each coordinate is its distance from a bound.
-- Assumes nothing.
use mathlib.Core.List.{List}
use Prim.Native.Nat.{ℕ, zero, suc, ◌*◌, ◌+◌, ◌-◌, ◌≤◌, ◌<◌}
use native.Mathlib.Omega.{arith}
use Rattle.defs.specs.Meaning.Outline.{vx, vy, sides}
use Rattle.defs.specs.Meaning.Turn.{turned, extent_x}
use Rattle.defs.specs.Computing.Vertices.{right_of, head_of}
use Rattle.laws.proofs.Extremes.{most_limit, greatest_limit}
use Rattle.laws.proofs.Turns.{turn_0_x, turn_0_y, turn_1_x, turn_1_y, turn_2_x, turn_2_y, turn_3_x, turn_3_y}
use Rattle.outline.specs.Vertex.{Lent}

module _ {o : List ℕ} (lent : Lent o) where
  right_limit : right_of o ≤ 16000
  right_limit = most_limit (vx o) (sides o - 1) 16000 (λ i _. lent.small (2 * i))

  head_limit : head_of o ≤ 16000
  head_limit = most_limit (vy o) (sides o - 1) 16000 (λ i _. lent.small (2 * i + 1))

  pub vertex_limit : (t : ℕ) → t ≤ 3 → (i : ℕ) → i < sides o → (vx (turned o t) i ≤ 16000) × (vy (turned o t) i ≤ 16000)
  vertex_limit zero m i s = (
    omega (arith, turn_0_x o i s, lent.small (2 * i)),
    omega (arith, turn_0_y o i s, lent.small (2 * i + 1)),
  )
  vertex_limit (suc zero) m i s = (
    omega (arith, turn_1_x o i s, head_limit),
    omega (arith, turn_1_y o i s, lent.small (2 * i)),
  )
  vertex_limit (suc (suc zero)) m i s = (omega (arith, turn_2_x o i s, right_limit), omega (arith, turn_2_y o i s, head_limit))
  vertex_limit (suc (suc (suc zero))) m i s = (
    omega (arith, turn_3_x o i s, lent.small (2 * i + 1)),
    omega (arith, turn_3_y o i s, right_limit),
  )
  vertex_limit (suc (suc (suc (suc t)))) m i s = absurd (omega arith)

  pub extent_limit : (t : ℕ) → t ≤ 3 → extent_x o t ≤ 16000
  unfolding extent_x
  extent_limit t m = greatest_limit (vx (turned o t)) (sides o) 16000 (λ i s. (vertex_limit t m i s).0)
