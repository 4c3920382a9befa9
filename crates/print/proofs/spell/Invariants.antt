-- The digits from the last on, by what is left to spell. Assumes nothing.
use lib.ListN.{length}
use Rattle.print.proofs.Puts.{Spelling}
use Rattle.print.proofs.spell.Given as goal

abbrev pub invariant-loop-i : goal.invariant-loop-i
invariant-loop-i l = Spelling (length l.initial.text) l.n l.text l.rest l.i
