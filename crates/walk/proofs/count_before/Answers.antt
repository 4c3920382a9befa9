-- `count_before` meets its contract: runs are passed over from the last one on, as long as they are in column w or later.
-- Assumes nothing.
use native.Mathlib.Omega.{arith}
use Prim.Native.Nat.{◌-◌}
use Rattle.walk.proofs.Jumps.{looking_start, looking_more, looking_found, looking_none}
use Rattle.walk.proofs.count_before.Goals as goal

pub loop-q-init : goal.loop-q-init
loop-q-init c = looking_start _ _ _

pub returns-then-from-w : goal.returns-then-from-w
returns-then-from-w c = looking_found (c.loop-q.q - 1) c.loop-q.invariant (omega arith) c.requires (omega arith)

pub loop-q-preserved : goal.loop-q-preserved
loop-q-preserved c = looking_more c.loop-q.invariant (omega arith) (omega arith)

pub returns : goal.returns
returns c = looking_none c.loop-q.invariant (omega arith)
