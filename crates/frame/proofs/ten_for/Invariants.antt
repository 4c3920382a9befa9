-- The power of ten grows. Assumes nothing.
use Prim.Native.Nat.{◌≤◌, ◌-◌}
use Rattle.frame.proofs.ten_for.Given as goal

abbrev pub invariant-loop-ten : goal.invariant-loop-ten
invariant-loop-ten l = (1 ≤ l.ten) × (l.ten ≤ 131070)

abbrev pub decreases-loop-ten : goal.decreases-loop-ten
decreases-loop-ten l = 131070 - l.ten
