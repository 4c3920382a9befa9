-- `outline::side_of` meets its contract: the test of the code is the one that orders the ends of an edge.
-- Assumes nothing.
use borrow.Author.Tests.{le-leb, lt-leb}
use Rattle.outline.proofs.side_of.Goals as goal

pub returns-then-u-v : goal.returns-then-u-v
returns-then-u-v c = simp (le-leb _ _ c.if-u-v.true)

pub returns-else-u-v : goal.returns-else-u-v
returns-else-u-v c = simp (lt-leb _ _ c.if-u-v.false)
