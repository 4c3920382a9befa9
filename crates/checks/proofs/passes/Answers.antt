-- `passes` meets its contract: it asks the definition's tests. Assumes nothing.
use borrow.Author.Tests.{lt-ltb, le-ltb}
use Rattle.slabs.specs.Change.{passesb}
use Rattle.checks.proofs.passes.Goals as goal
use Rattle.checks.proofs.passes.Goals.{else-a0-b0-via-then-a0-b0+else-b1-a1, else-a0-b0-via-else-a0-b0}

pub returns-then-b1-a1 : goal.returns-then-b1-a1
unfolding passesb
returns-then-b1-a1 c = simp (lt-ltb _ _ c.if-a0-b0.true, lt-ltb _ _ c.if-b1-a1.true)

pub returns : goal.returns
unfolding passesb
returns c = elim c.else-a0-b0.branch [
  | else-a0-b0-via-then-a0-b0+else-b1-a1 w ↦ simp (lt-ltb _ _ w.if-a0-b0.true, le-ltb _ _ w.if-b1-a1.false)
  | else-a0-b0-via-else-a0-b0 w ↦ simp (le-ltb _ _ w.if-a0-b0.false)
]
