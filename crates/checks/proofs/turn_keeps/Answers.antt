-- `turn_keeps` meets its contract: a turn that is not allowed passes.
-- Assumes nothing.
use mathlib.Core.Path.{ap, ◌∙◌}
use mathlib.Core.Bool.{not}
use Rattle.checks.proofs.Turned.{turn_allowed, turn_barred}
use Rattle.checks.proofs.turn_keeps.Goals as goal

pub returns-else-not-allows : goal.returns-else-not-allows
returns-else-not-allows c =
    turn_allowed _ _ _ c.allows.ensures c.if-not-allows.false
    (rw (c.new.ensures.0, c.new.ensures.1) at c.keeps_order.ensures)

pub returns-then-not-allows : goal.returns-then-not-allows
returns-then-not-allows c = ap not c.if-not-allows.true ∙ turn_barred _ _ _ c.allows.ensures c.if-not-allows.true
