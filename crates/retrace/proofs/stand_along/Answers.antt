-- `stand_along` meets its contract: the tests are asked one after another. Assumes nothing.
use native.Mathlib.Omega.{arith}
use Rattle.std.proofs.lemmas.Grind.{common_steps}
use Rattle.strokes.specs.Retrace.{stand_along}
use Rattle.retrace.proofs.stand_along.Goals as goal

pub returns-then-e : goal.returns-then-e
unfolding stand_along
returns-then-e c = grind (arith, common_steps)

pub returns : goal.returns
unfolding stand_along
returns c = grind (arith, common_steps)
