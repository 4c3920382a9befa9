-- The numbers still to put, each after a space, give the whole. Assumes nothing.
use native.Mathlib.Omega.{arith}
use Rattle.print.proofs.Puts.{space_next, space_end}
use Rattle.print.proofs.put_spaced.Goals as goal

pub loop-n-preserved : goal.loop-n-preserved
loop-n-preserved c = space_next c.loop-n.invariant (omega arith) c.put_decimal-to.ensures

pub returns : goal.returns
returns c = space_end c.loop-n.invariant (omega arith)
