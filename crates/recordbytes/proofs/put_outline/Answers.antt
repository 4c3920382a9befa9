-- The records still to write, stored where they go, give the whole. Assumes nothing.
use native.Mathlib.Omega.{arith}
use Rattle.recordbytes.proofs.Puts.{outline_start, outline_next, outline_at, outline_end}
use Rattle.recordbytes.proofs.put_outline.Goals as goal

pub loop-i-init : goal.loop-i-init
loop-i-init c = outline_at (omega arith) (omega arith) (omega arith) (omega arith) (outline_start c.requires)

pub loop-i-preserved : goal.loop-i-preserved
loop-i-preserved c =
    outline_at (omega arith) (omega arith) (omega arith) (omega arith)
    (outline_next c.loop-i.invariant (omega arith) c.link.ensures c.set_record.ensures)

pub shape_of-out : goal.shape_of-out
shape_of-out c = c.loop-i.invariant.long

pub returns : goal.returns
returns c = outline_end c.loop-i.invariant (omega arith)
