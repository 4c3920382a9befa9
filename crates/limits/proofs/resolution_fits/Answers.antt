-- Question 16. Assumes nothing.
use Rattle.defs.specs.Computing.Words.{resolutionb}
use Rattle.limits.proofs.resolution_fits.Goals as goal

pub returns : goal.returns
unfolding resolutionb
returns c = c.in_range.ensures
