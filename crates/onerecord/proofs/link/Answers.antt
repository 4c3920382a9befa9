-- The following number, but at the end. Assumes nothing.
use Rattle.onerecord.proofs.Record.{link_end, link_on}
use Rattle.onerecord.proofs.link.Goals as goal

pub returns-then-left-le1 : goal.returns-then-left-le1
returns-then-left-le1 c = link_end _ _ c.if-left-le1.true

pub returns-else-left-le1 : goal.returns-else-left-le1
returns-else-left-le1 c = link_on _ _ c.if-left-le1.false
