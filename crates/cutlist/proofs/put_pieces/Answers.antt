-- The words still to come, stored from where they go, give the whole. Assumes nothing.
use Rattle.cutlist.proofs.Lists.{list_start, list_fits, list_next}
use Rattle.cutlist.proofs.put_pieces.Goals as goal

pub loop-at-init : goal.loop-at-init
loop-at-init c = rw c.into_iter-at-iterator.ensures.into_iter_gives (list_start c.requires c.of-at-items.ensures)

pub put_piece-to-requires : goal.put_piece-to-requires
put_piece-to-requires c = list_fits c.loop-at.invariant c.in-Some.ensures.steps

pub loop-at-preserved : goal.loop-at-preserved
loop-at-preserved c = list_next c.loop-at.invariant c.in-Some.ensures.steps c.put_piece-to.ensures
