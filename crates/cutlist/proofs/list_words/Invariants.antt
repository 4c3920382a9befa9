-- The words counted so far and those of the pieces still to come are all. Assumes nothing.
use Rattle.cutlist.proofs.Lists.{Summing}
use Rattle.cutlist.proofs.list_words.Given as goal

abbrev pub invariant-loop-at : goal.invariant-loop-at
invariant-loop-at l = Summing l.sheet l.v l.at-iterator l.total
