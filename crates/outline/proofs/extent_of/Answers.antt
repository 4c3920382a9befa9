-- `outline::extent_of` meets its contract: the extent is by the bounds, and an odd turn swaps width and height.
-- Assumes nothing.
use Rattle.outline.proofs.Extents.{left_right, foot_head, upright, sideways}
use Rattle.outline.proofs.extent_of.Goals as goal

pub overflow_sub-across : goal.overflow_sub-across
overflow_sub-across c = left_right c.requires.fact_1 c.requires.fact_2

pub overflow_sub-up : goal.overflow_sub-up
overflow_sub-up c = foot_head c.requires.fact_1 c.requires.fact_2

pub returns-then-t-eq0 : goal.returns-then-t-eq0
returns-then-t-eq0 c =
    upright c.requires.fact_1 c.requires.fact_2 _ c.requires.fact_3 c.if-t-eq0.true

pub returns-else-t-eq0 : goal.returns-else-t-eq0
returns-else-t-eq0 c =
    sideways c.requires.fact_1 c.requires.fact_2 _ c.requires.fact_3 c.if-t-eq0.false
