-- `crosses` meets its contract: one line passes the other, or the other the one. Assumes nothing.
use Rattle.slabs.specs.Change.{crossesb}
use Rattle.checks.proofs.crosses.Goals as goal

pub returns-then-passes : goal.returns-then-passes
unfolding crossesb
returns-then-passes c = rw (← c.passes.ensures, c.if-passes.true)

pub returns-else-passes : goal.returns-else-passes
unfolding crossesb
returns-else-passes c = rw (← c.passes.ensures, c.if-passes.false) c.passes-else-passes.ensures
