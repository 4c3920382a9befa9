-- The answer and the strip, and then the work buffer cleared. Assumes nothing.
use Rattle.commit.proofs.Strip.{step_of}
use borrow.Author.Rules.{rules}
use Rattle.commit.proofs.commit.Goals as goal

pub returns : goal.returns
returns c = step_of c.put-x.new.work c.put-x.ensures c.committed.ensures (search rules) c.clear.ensures
