-- `on_line` meets its contract: the height at distance d on the line between two heights. Assumes nothing.
use Rattle.column.proofs.Parts.{line_up, line_down}
use Rattle.column.proofs.on_line.Goals as goal

pub returns-then-p-q : goal.returns-then-p-q
returns-then-p-q c = line_up _ _ _ _ c.if-p-q.true

pub returns-else-p-q : goal.returns-else-p-q
returns-else-p-q c = line_down _ _ _ _ c.if-p-q.false
