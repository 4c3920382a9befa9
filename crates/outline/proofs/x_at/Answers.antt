-- `x_at` meets its contract: its word is the first, or the second in an odd turn. Assumes nothing.
use Rattle.outline.proofs.Vertices.{reads_x}
use Rattle.outline.proofs.x_at.Goals as goal

pub returns : goal.returns
returns c = reads_x c.requires.fact_1 _ c.abs_diff.ensures
