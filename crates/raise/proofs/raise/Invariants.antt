-- `raise` meets its contract: the runs are raised one by one.
-- Assumes nothing.
use Rattle.raise.proofs.Raising.{Raising}
use Rattle.raise.proofs.raise.Given as goal

abbrev pub invariant-loop-i : goal.invariant-loop-i
invariant-loop-i l = Raising l.initial.lows l.initial.highs l.g l.lows l.highs l.i l.m
