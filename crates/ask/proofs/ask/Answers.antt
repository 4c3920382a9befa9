-- The answer, and then the work buffer cleared. Assumes nothing.
use Rattle.ask.proofs.Strip.{step_of}
use borrow.Author.Rules.{rules}
use Rattle.ask.proofs.ask.Goals as goal

pub returns : goal.returns
returns c = step_of c.look-x.new.work (c.look-x.ensures.fact_1, c.look-x.ensures.fact_2) (search rules) c.clear.ensures
