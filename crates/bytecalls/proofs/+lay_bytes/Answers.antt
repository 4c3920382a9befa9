-- As for place_bytes: the call on half of the work buffer, or with one of the two local ones. Assumes nothing.
use Rattle.bytecalls.proofs.Laid.{lay_step, lay_half}
use Rattle.bytecalls.proofs.+lay_bytes.Goals as goal

pub returns-then-n : goal.returns-then-n
returns-then-n t c = lay_half c.args.work.now c.if-n.true c.lay_bytes-a.ensures c.clear_words.ensures

pub returns-then-n-le-SMALL_WORK : goal.returns-then-n-le-SMALL_WORK
returns-then-n-le-SMALL_WORK t c = lay_step c.lay_in.ensures c.clear_words-2.ensures

pub returns : goal.returns
returns t c = lay_step c.lay_in-2.ensures c.clear_words-2.ensures
