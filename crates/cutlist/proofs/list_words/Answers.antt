-- The words counted so far and those of the pieces still to come are all. Assumes nothing.
use Rattle.cutlist.proofs.Lists.{sum_start, sum_next}
use Rattle.cutlist.proofs.list_words.Goals as goal

pub loop-at-init : goal.loop-at-init
loop-at-init c = rw c.into_iter-at-iterator.ensures.into_iter_gives (sum_start c.of-at-items.ensures c.requires.fact_2)

pub loop-at-preserved : goal.loop-at-preserved
loop-at-preserved c = sum_next c.loop-at.invariant c.in-Some.ensures.steps c.piece_words-total.ensures
