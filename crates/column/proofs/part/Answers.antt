-- `part` meets its contract: it writes the heights of each entry at two distances from the slab's left end.
-- The loop's invariant is the contract for the entries written. Assumes nothing.
use native.Mathlib.Omega.{arith}
use borrow.Author.Rules.{rules}
use Rattle.column.proofs.Parts.{parted_none, parted_more, parted_end}
use Rattle.column.proofs.part.Goals as goal

pub loop-x-init : goal.loop-x-init
loop-x-init c = record { left = search rules; right = search rules; done = parted_none _ _ _ _ _ _ _ }

pub loop-x-preserved : goal.loop-x-preserved
loop-x-preserved c = record { left = search rules; right = search rules; done = parted_more c.loop-x.invariant.done (omega arith) (omega arith) c.on_line.ensures c.on_line-in-loop-x.ensures }

pub returns : goal.returns
returns c = parted_end c.loop-x.invariant.done (omega arith)
