-- The lines still to put, of the entries still to come, give the whole. Assumes nothing.
use Rattle.layout.proofs.Lines.{Listing}
use Rattle.layout.proofs.put_entries.Given as goal

abbrev pub invariant-loop-i : goal.invariant-loop-i
invariant-loop-i l = Listing l.words l.initial.out l.out l.at l.count l.i l.to
