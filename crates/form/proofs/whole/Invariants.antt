-- The walk over all chains, counting their records. Assumes nothing.
use Rattle.form.proofs.Totals.{On}
use Rattle.form.proofs.whole.Given as goal

abbrev pub invariant-loop-c : goal.invariant-loop-c
invariant-loop-c l = On l.s l.g l.c l.total
