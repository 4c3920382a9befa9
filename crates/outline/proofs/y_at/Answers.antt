-- `y_at` meets its contract: its word is the second, or the first in an odd turn. Assumes nothing.
use Rattle.outline.proofs.Vertices.{reads_y}
use Rattle.outline.proofs.y_at.Goals as goal

pub returns : goal.returns
returns c = reads_y c.requires.fact_1 _ c.abs_diff.ensures
