-- The first refusal of the whole chain is that of the pieces still to come. Assumes nothing.
use Rattle.pieceno.proofs.Asking.{ask_start, ask_next, ask_stop, ask_end}
use Rattle.pieceno.proofs.first_no.Goals as goal

pub loop-at-init : goal.loop-at-init
loop-at-init c = rw c.into_iter-at-iterator.ensures.into_iter_gives (ask_start c.of-at-items.ensures)

pub returns : goal.returns
returns c = ask_end c.loop-at.invariant c.in-None.ensures.steps

pub returns-in-Err : goal.returns-in-Err
returns-in-Err c =
    rw c.refused.ensures (ask_stop c.loop-at.invariant c.in-Some.ensures.steps (rw c.in-Err.is at c.ask_piece.ensures))

pub loop-at-preserved : goal.loop-at-preserved
loop-at-preserved c = ask_next c.loop-at.invariant c.in-Some.ensures.steps (rw c.in_default.is at c.ask_piece.ensures)
