-- The words a to i - 1 stand at t. Assumes nothing.
use Rattle.columnentry.specs.Columns.{Copied}
use Rattle.columnentry.proofs.copy_words.Given as goal

abbrev pub invariant-loop-i : goal.invariant-loop-i
invariant-loop-i l = Copied l.from l.initial.to l.to l.a l.i l.t
