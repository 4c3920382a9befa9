-- The right edge of the column, and the top. Assumes nothing.
use mathlib.Core.Path.{refl}
use Rattle.best.proofs.rank.Goals as goal

pub returns : goal.returns
returns c = rw c.right_edge.ensures refl
