-- `shares` meets its contract: one of the two tests passes. Assumes nothing.
use mathlib.Core.Path.{◌∙◌}
use Rattle.retrace.proofs.Along.{shares_run, shares_stand}
use Rattle.retrace.proofs.shares.Goals as goal

pub returns-then-run_along : goal.returns-then-run_along
returns-then-run_along c = c.if-run_along.true ∙ shares_run _ _ c.run_along.ensures c.if-run_along.true

pub returns-else-run_along : goal.returns-else-run_along
returns-else-run_along c = shares_stand _ _ c.run_along.ensures c.if-run_along.false c.stand_along.ensures
