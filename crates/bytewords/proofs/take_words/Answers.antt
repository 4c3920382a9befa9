-- Each word is the number at its two bytes. Assumes nothing.
use Rattle.bytewords.proofs.Loops.{taking_start, taking_next, taking_end}
use Rattle.bytewords.proofs.take_words.Goals as goal

pub loop-i-init : goal.loop-i-init
loop-i-init c = taking_start _ _

pub loop-i-preserved : goal.loop-i-preserved
loop-i-preserved c = taking_next c.loop-i.invariant c.requires c.loop-i-test.true c.number.ensures

pub returns : goal.returns
returns c = taking_end c.loop-i.invariant c.loop-i-test.false
