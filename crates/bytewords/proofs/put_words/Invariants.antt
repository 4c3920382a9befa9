-- The words still to put, stored where they go, give the whole. Assumes nothing.
use Rattle.bytewords.proofs.Loops.{Putting}
use Rattle.bytewords.proofs.put_words.Given as goal

abbrev pub invariant-loop-i : goal.invariant-loop-i
invariant-loop-i l = Putting l.words l.initial.bytes l.bytes l.i
