-- `settle` meets its contract: each jump goes onto the lowest run that the rows meet, and the next that they can meet is the one above.
-- Assumes nothing.
use native.Mathlib.Omega.{arith}
use Rattle.heights.proofs.Risings.{rise_start, rise_next, rise_end, high_most}
use Rattle.heights.proofs.settle.Goals as goal

pub loop-i-init : goal.loop-i-init
loop-i-init c = rise_start (omega arith) c.pass-i.ensures

pub returns-then-z-hi : goal.returns-then-z-hi
returns-then-z-hi c = rise_end c.requires.column c.loop-i.invariant (λ _. c.if-z-hi.true)

pub overflow_sub-z : goal.overflow_sub-z
overflow_sub-z c = omega (arith, c.loop-i.invariant.passes.found (omega arith))

pub loop-i-preserved : goal.loop-i-preserved
loop-i-preserved c =
    let pre = c.requires in
    let g = c.loop-i.invariant in
    rise_next pre.column g (omega arith) (high_most pre.column.runs pre.low g.passes.from (omega arith)) (omega arith)

pub returns : goal.returns
returns c = rise_end c.requires.column c.loop-i.invariant (λ l. absurd (omega arith))
