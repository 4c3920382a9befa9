-- The first refusal of the whole chain is that of the pieces still to come. Assumes nothing.
use Rattle.pieceno.proofs.Asking.{Asking}
use Rattle.pieceno.proofs.first_no.Given as goal

abbrev pub invariant-loop-at : goal.invariant-loop-at
invariant-loop-at l = Asking l.sheet l.v l.at-iterator l.ordinal
