-- The runs are counted as they are decoded. Assumes nothing.
use native.Mathlib.Omega.{arith}
use Rattle.exports.proofs.Decoding.{few, decoded_is, none_decoded}
use Rattle.exports.proofs.vikelodu_decoded.Goals as goal

pub overflow_cast-result : goal.overflow_cast-result
overflow_cast-result c = omega (arith, few (rw c.in-Some.is at c.decode.ensures))

pub returns-in-Some : goal.returns-in-Some
returns-in-Some c = decoded_is (rw c.in-Some.is at c.decode.ensures)

pub returns-in-None : goal.returns-in-None
returns-in-None c = none_decoded _ (rw c.in-None.is at c.decode.ensures)
