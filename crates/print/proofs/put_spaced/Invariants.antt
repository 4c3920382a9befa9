-- The numbers still to put, each after a space, give the whole. Assumes nothing.
use Rattle.print.proofs.Puts.{Spacing}
use Rattle.print.proofs.put_spaced.Given as goal

abbrev pub invariant-loop-n : goal.invariant-loop-n
invariant-loop-n l = Spacing l.numbers l.initial.out l.out l.at l.n-index l.to
