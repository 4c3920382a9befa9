-- On the strip by differences, which do not wrap; then free. Assumes nothing.
use native.Mathlib.Omega.{arith}
use Rattle.spot.proofs.Runs.{off, on}
use Rattle.spot.proofs.fits_at.Goals as goal

pub returns : goal.returns
returns c = on (omega arith) (omega arith) c.free_at.ensures
