-- Question 6 of a list. Assumes nothing.
use mathlib.Core.Path.{◌∙◌}
use borrow.Author.Tests.{lt-leb}
use Rattle.writes.proofs.Outputs.{six_none, six_is}
use Rattle.writes.proofs.count_fits.Goals as goal

pub returns-then-list-ge1 : goal.returns-then-list-ge1
returns-then-list-ge1 c = six_is _ c.if-list-ge1.true

pub returns-else-list-ge1 : goal.returns-else-list-ge1
returns-else-list-ge1 c = lt-leb 1 _ c.if-list-ge1.false ∙ six_none _ c.if-list-ge1.false
