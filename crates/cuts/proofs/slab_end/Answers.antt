-- `slab_end` meets its contract: the end that is kept is that of the slab after s, and any other is looked for. Assumes nothing.
use Rattle.cuts.proofs.Ends.{cut_after}
use Rattle.cuts.proofs.slab_end.Goals as goal

pub returns-then-a-s-2 : goal.returns-then-a-s-2
returns-then-a-s-2 c = cut_after _ _ c.if-a-s.true c.requires.next c.if-a-s-2.true
