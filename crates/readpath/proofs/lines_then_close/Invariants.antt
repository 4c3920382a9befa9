-- The lines still to see decide the whole. Assumes nothing.
use Rattle.readpath.proofs.Lines.{Seen}
use Rattle.readpath.proofs.lines_then_close.Given as goal

abbrev pub invariant-loop-i : goal.invariant-loop-i
invariant-loop-i l = Seen l.path l.n l.i
