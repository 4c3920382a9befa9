-- `raise` meets its contract: the runs are raised one by one.
-- Assumes nothing.
use native.Mathlib.Omega.{arith}
use Rattle.raise.proofs.Raising.{raised_by_none, raising_start, raising_next, raising_end}
use Rattle.raise.proofs.raise.Goals as goal

pub returns-then-g-eq0 : goal.returns-then-g-eq0
returns-then-g-eq0 c = raised_by_none c.if-g-eq0.true c.requires.fact_1

pub loop-i-init : goal.loop-i-init
loop-i-init c = raising_start _ _ _

pub overflow_add-hi : goal.overflow_add-hi
overflow_add-hi c = omega (arith, c.loop-i.invariant.highs_kept c.loop-i.i (omega arith), c.requires.fact_3 c.loop-i.i (omega arith))

pub loop-i-preserved : goal.loop-i-preserved
loop-i-preserved c =
    let r = c.loop-i.invariant in
    let i = c.loop-i.i in
    let pre = c.requires in
    raising_next pre.fact_1 (omega arith) pre.fact_2.0 pre.fact_2.1 r (r.lows_kept i (omega arith))
    (omega (arith, r.highs_kept i (omega arith))) c.put_run-m.ensures

pub returns : goal.returns
returns c = raising_end c.loop-i.invariant (omega arith)
