-- At most 64 vertices are stored. Assumes nothing.
use Prim.Native.Nat.{◌-◌, ◌≤◌}
use Rattle.lines.proofs.vertices.Given as goal

abbrev pub invariant-loop-unit : goal.invariant-loop-unit
invariant-loop-unit l = l.count ≤ 64

abbrev pub decreases-loop-unit : goal.decreases-loop-unit
decreases-loop-unit l = 64 - l.count
