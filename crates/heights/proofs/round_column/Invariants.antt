-- `round_column` meets its contract: no height below the one that is tried is free, and all runs are free there but those that are left. Each
-- try leaves a run less or goes up, so the tries come to an end. Runs past the last column count for nothing.
-- Assumes nothing.
use Prim.Native.Nat.{◌+◌, ◌-◌, ◌*◌}
use Rattle.heights.proofs.Goings.{Going}
use Rattle.heights.proofs.round_column.Given as goal

abbrev pub invariant-loop-left : goal.invariant-loop-left
invariant-loop-left l = Going l.s.first.now l.lows l.highs l.runs l.n l.p l.c l.top l.y l.k l.left

abbrev pub decreases-loop-left : goal.decreases-loop-left
decreases-loop-left l = (l.top - l.y) * l.p + l.left
