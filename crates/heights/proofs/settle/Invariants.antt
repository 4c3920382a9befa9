-- `settle` meets its contract: each jump goes onto the lowest run that the rows meet, and the next that they can meet is the one above.
-- Assumes nothing.
use Rattle.heights.proofs.Risings.{Rising}
use Rattle.heights.proofs.settle.Given as goal

abbrev pub invariant-loop-i : goal.invariant-loop-i
invariant-loop-i l = Rising l.first l.lows l.highs l.c l.lo l.hi l.y l.i l.z
