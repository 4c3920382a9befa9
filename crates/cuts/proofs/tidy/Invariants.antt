-- `tidy` meets its contract: where it says true, the heights at the right rise from each entry to the next, so over any distance.
-- Assumes nothing.
use Rattle.entries.specs.Edges.{Rising}
use Rattle.cuts.proofs.tidy.Given as goal

abbrev pub invariant-loop-x : goal.invariant-loop-x
invariant-loop-x l = Rising l.h1 l.w l.x
