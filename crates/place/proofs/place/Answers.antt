-- The answer and the strip, and then the work buffer cleared. Assumes nothing.
use Rattle.place.proofs.Strip.{step_of}
use borrow.Author.Rules.{rules}
use Rattle.place.proofs.place.Goals as goal

pub returns : goal.returns
returns c = step_of c.put-a.new.work c.put-a.ensures (search rules) c.clear.ensures
