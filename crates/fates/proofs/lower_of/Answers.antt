-- A position's right edge, or whether 13 was answered. Assumes nothing.
use borrow.Author.Tests.{ne_eqb}
use Rattle.fates.proofs.lower_of.Goals as goal

pub returns-else-r-eq13 : goal.returns-else-r-eq13
returns-else-r-eq13 c = rw (c.in-Err.is, ne_eqb c.in-Err.r.number 13 c.if-r-eq13.false)
