-- The words still to put, stored where they go, give the whole. Assumes nothing.
use Rattle.bytewords.proofs.Loops.{putting_start, putting_next, putting_end}
use Rattle.bytewords.proofs.put_words.Goals as goal

pub loop-i-init : goal.loop-i-init
loop-i-init c = putting_start _ _

pub loop-i-preserved : goal.loop-i-preserved
loop-i-preserved c = putting_next c.loop-i.invariant c.loop-i-test.true c.set_number.ensures

pub returns : goal.returns
returns c = putting_end c.loop-i.invariant c.requires c.loop-i-test.false
