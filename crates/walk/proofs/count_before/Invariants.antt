-- `count_before` meets its contract: runs are passed over from the last one on, as long as they are in column w or later.
-- Assumes nothing.
use Rattle.walk.proofs.Jumps.{Looking}
use Rattle.walk.proofs.count_before.Given as goal

abbrev pub invariant-loop-q : goal.invariant-loop-q
invariant-loop-q l = Looking l.runs l.p l.w l.q

abbrev pub decreases-loop-q : goal.decreases-loop-q
decreases-loop-q l = l.q
