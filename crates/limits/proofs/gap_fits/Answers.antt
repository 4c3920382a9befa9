-- 21 is a compare. Assumes nothing.
use mathlib.Core.Path.{refl}
use Rattle.defs.specs.Computing.Words.{gapb}
use Rattle.limits.proofs.gap_fits.Goals as goal

pub returns : goal.returns
unfolding gapb
returns c = refl
