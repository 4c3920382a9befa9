-- The lines still to put, of the entries still to come, give the whole. Assumes nothing.
use native.Mathlib.Omega.{arith}
use Rattle.layout.proofs.Lines.{list_next, list_end}
use Rattle.layout.proofs.put_entries.Goals as goal

pub loop-i-preserved : goal.loop-i-preserved
loop-i-preserved c = list_next c.loop-i.invariant (omega arith) (rw c.fate_at.ensures at c.put_entry-to.ensures)

pub returns : goal.returns
returns c = list_end c.loop-i.invariant (omega arith)
