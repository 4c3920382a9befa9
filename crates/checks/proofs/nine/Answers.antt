-- `nine` meets its contract: the range is of all masks. Assumes nothing.
use native.Mathlib.Omega.{arith}
use Rattle.std.proofs.lemmas.Grind.{common_steps}
use Rattle.defs.specs.Computing.Calls.{q9b}
use Rattle.checks.proofs.nine.Goals as goal

pub returns : goal.returns
unfolding q9b
returns c = let n = c.new.ensures in let e = rw (n.start, n.end, n.exhausted) at c.contains.ensures.value in grind (arith, common_steps, e)
