-- The walk over all chains, column after column of the table. Assumes nothing.
use Rattle.decode.proofs.Tabs.{Tabs}
use Rattle.decode.proofs.take_all.Given as goal

abbrev pub invariant-loop-c : goal.invariant-loop-c
invariant-loop-c l = Tabs l.s l.first l.lows l.highs l.g l.c l.t
