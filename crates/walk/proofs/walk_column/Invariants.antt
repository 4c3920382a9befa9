-- `walk_column` meets its contract: no height below the one that is tried is free, the runs before the one that is tried stay free up to
-- `stay`, and the tries counted with what is left of the walk give the whole walk. Each step goes on by a run or up by a jump, so the tries
-- come to an end. Runs past the last column count for nothing.
-- Assumes nothing.
use Prim.Native.Nat.{◌+◌, ◌-◌, ◌*◌}
use Rattle.walk.proofs.Jumps.{Going}
use Rattle.walk.proofs.Counts.{Counted}
use Rattle.walk.proofs.walk_column.Given as goal

abbrev pub invariant-loop-k : goal.invariant-loop-k
invariant-loop-k l =
    Going l.s.first.now l.lows l.highs l.runs l.n l.p l.c l.top l.y l.k l.stay × Counted l.s.first.now l.lows l.highs l.runs l.n l.p l.c l.top l.y l.tries

abbrev pub decreases-loop-k : goal.decreases-loop-k
decreases-loop-k l = (l.top - l.y) * (l.p + 1) + (l.p - l.k)
