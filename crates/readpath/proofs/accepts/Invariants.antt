-- The coordinates still to look at decide the whole; the words still to store, where they go, give the whole. Assumes nothing.
use Rattle.readpath.proofs.Words.{Keeping}
use Rattle.readpath.proofs.accepts.Given as goal

abbrev pub invariant-loop-i : goal.invariant-loop-i
invariant-loop-i l = Keeping l.path l.initial.words l.words l.n l.i
