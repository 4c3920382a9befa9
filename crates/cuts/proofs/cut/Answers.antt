-- `cut` meets its contract: it ends a slab at the next vertex, or at `to`.
-- The loop's invariant is the contract for the vertices looked at. Assumes nothing.
use native.Mathlib.Omega.{arith}
use Rattle.cuts.proofs.Ends.{cut_none, cut_more, cut_end}
use Rattle.outline.proofs.Vertices.{turned_x}
use Rattle.cuts.proofs.cut.Goals as goal

pub loop-i-init : goal.loop-i-init
loop-i-init c = cut_none _ _ _ c.requires

pub loop-i-preserved : goal.loop-i-preserved
loop-i-preserved c = cut_more c.loop-i.invariant (turned_x c.args.o.framed (omega arith) c.x.ensures) c.nearer-r.ensures

pub returns : goal.returns
returns c = cut_end c.loop-i.invariant (omega arith)
