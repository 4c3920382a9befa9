-- `seven` meets its contract: an even length within the limits. Assumes nothing.
use native.Mathlib.Omega.{arith}
use borrow.Author.Tests.{eq-eqb, ne_eqb}
use Rattle.std.proofs.lemmas.Grind.{common_steps}
use Rattle.defs.specs.Computing.Calls.{q7b}
use Rattle.checks.proofs.seven.Goals as goal

pub returns-then-n-eq0 : goal.returns-then-n-eq0
unfolding q7b
returns-then-n-eq0 c =
    let n = c.new.ensures in
    let e = rw (n.start, n.end, n.exhausted) at c.contains.ensures.value in
    simp (eq-eqb _ _ c.if-n-eq0.true) (grind (arith, common_steps, e))

pub returns-else-n-eq0 : goal.returns-else-n-eq0
unfolding q7b
returns-else-n-eq0 c = simp (ne_eqb _ _ c.if-n-eq0.false)
