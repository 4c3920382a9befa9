-- Question 15 of an outline that passes 7 and 8, and then its bytes. Assumes nothing.
use mathlib.Core.Path.{refl}
use native.Mathlib.Omega.{arith}
use Rattle.writepath.proofs.Outputs.{short, no_room, fits, write}
use Rattle.writepath.proofs.write_passed.Goals as goal

pub overflow_mul-size : goal.overflow_mul-size
overflow_mul-size c = omega (arith, short _ c.requires.0)

pub overflow_add-size : goal.overflow_add-size
overflow_add-size c = omega (arith, short _ c.requires.0)

pub returns-then-out-size : goal.returns-then-out-size
returns-then-out-size c = no_room _ _ c.requires.0 c.requires.1 c.if-out-size.true c.refused.ensures refl

pub put_path-requires : goal.put_path-requires
put_path-requires c = fits _ _ c.requires.0 c.requires.1 c.if-out-size.false

pub overflow_cast-result : goal.overflow_cast-result
overflow_cast-result c = omega (arith, short _ c.requires.0)

pub returns : goal.returns
returns c = write _ _ c.requires.0 c.requires.1 c.if-out-size.false c.put_path.ensures
