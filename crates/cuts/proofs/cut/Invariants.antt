-- `cut` meets its contract: it ends a slab at the next vertex, or at `to`.
-- The loop's invariant is the contract for the vertices looked at. Assumes nothing.
use Rattle.outline.specs.Shape.{shape}
use Rattle.cuts.specs.Cut.{CutAt}
use Rattle.cuts.proofs.cut.Given as goal

abbrev pub invariant-loop-i : goal.invariant-loop-i
invariant-loop-i l = CutAt (shape l.o) l.a l.i l.r
