-- The call on half of the work buffer, or with one of the two local ones. Assumes nothing.
use Rattle.byteput.proofs.Calls.{put_half}
use Rattle.byteput.proofs.+put_copy.Goals as goal

pub returns-then-n : goal.returns-then-n
returns-then-n t c = put_half c.args.work.now c.if-n.true c.put_copy-a.ensures c.clear_words.ensures
