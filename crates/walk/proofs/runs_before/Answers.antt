-- `runs_before` meets its contract: where the last run is before column w, all are. Assumes nothing.
use native.Mathlib.Omega.{arith}
use Prim.Native.Nat.{◌-◌}
use Rattle.walk.proofs.Jumps.{looking_start, looking_found}
use Rattle.walk.proofs.runs_before.Goals as goal

pub returns-then-from-w : goal.returns-then-from-w
returns-then-from-w c = looking_found (c.args.p - 1) (looking_start _ _ _) (omega arith) c.requires (omega arith)
