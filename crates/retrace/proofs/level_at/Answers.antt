-- `level_at` meets its contract: heights times the other edge's width. Assumes nothing.
use Rattle.retrace.proofs.Along.{level_is}
use Rattle.retrace.proofs.level_at.Goals as goal

pub returns : goal.returns
returns c = level_is _ _ c.from-v.ensures c.from-w.ensures c.height_at.ensures c.height_at-2.ensures
