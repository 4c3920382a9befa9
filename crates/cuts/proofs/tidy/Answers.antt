-- `tidy` meets its contract: where it says true, the heights at the right rise from each entry to the next, so over any distance.
-- Assumes nothing.
use native.Mathlib.Omega.{arith}
use Prim.Native.Nat.{◌-◌}
use Rattle.cuts.proofs.Ends.{rising_one, rising_more, rising_less, side_fits}
use Rattle.cuts.proofs.tidy.Goals as goal

pub loop-x-init : goal.loop-x-init
loop-x-init c = rising_one _ _

pub overflow_mul-h1 : goal.overflow_mul-h1
overflow_mul-h1 c = omega (arith, side_fits c.requires c.loop-x.x (c.loop-x.x - 1) c.loop-x-test.true (omega arith))

pub overflow_mul-h1-in-loop-x : goal.overflow_mul-h1-in-loop-x
overflow_mul-h1-in-loop-x c = omega (arith, side_fits c.requires (c.loop-x.x - 1) c.loop-x.x (omega arith) c.loop-x-test.true)

pub loop-x-preserved : goal.loop-x-preserved
loop-x-preserved c = rising_more (c.loop-x.x - 1) c.requires c.loop-x-test.true (omega arith) c.loop-x.invariant c.if-h1-x.false

pub returns : goal.returns
returns c = λ e. rising_less c.loop-x.invariant (omega arith)
