-- The words a to i - 1 stand at t. Assumes nothing.
use mathlib.Core.Path.{◌≡◌}
use native.Mathlib.Omega.{arith}
use Rattle.columnentry.proofs.Copying.{copied_none, copied_more}
use Rattle.columnentry.proofs.copy_words.Goals as goal

pub loop-i-init : goal.loop-i-init
loop-i-init c = copied_none _ _ _ _

pub loop-i-preserved : goal.loop-i-preserved
loop-i-preserved c = copied_more c.loop-i.invariant (omega arith) (omega arith) (omega arith)

pub returns : goal.returns
returns c = let z : c.loop-i.i ≡ c.args.e = omega arith in rw z at c.loop-i.invariant
