-- `allowed_cell` meets its contract: question 10 says that an allowed turn keeps the order.
-- Assumes nothing.
use Rattle.asked.proofs.AllowedTurns.{allowed_has, barred_has, allowed_keeps}
use Rattle.asked.proofs.allowed_cell.Goals as goal

pub has_cell-requires-clause-fact_4 : goal.has_cell-requires-clause-fact_4
has_cell-requires-clause-fact_4 c = let p = c.requires in allowed_keeps _ _ _ p.fact_4 p.fact_3 c.allows.ensures c.if-allows.true

pub returns-then-allows : goal.returns-then-allows
returns-then-allows c = allowed_has _ _ _ c.requires.fact_3 c.allows.ensures c.if-allows.true c.has_cell.ensures

pub returns-else-allows : goal.returns-else-allows
returns-else-allows c = barred_has _ _ _ c.requires.fact_3 c.allows.ensures c.if-allows.false
