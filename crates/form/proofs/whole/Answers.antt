-- The walk over all chains, counting their records. Assumes nothing.
use mathlib.Core.Path.{sym}
use native.Mathlib.Omega.{arith}
use Rattle.form.proofs.Totals.{on_start, on_next, on_fits, end_fits, broken, ended}
use Rattle.form.proofs.whole.Goals as goal

pub loop-c-init : goal.loop-c-init
loop-c-init c = on_start c.requires

pub overflow_add-total : goal.overflow_add-total
overflow_add-total c =
    let d = rw c.in-Some.is at c.column_chain.ensures in
    omega (arith, on_fits c.loop-c.invariant _ d)

pub loop-c-preserved : goal.loop-c-preserved
loop-c-preserved c =
    let d = rw c.in-Some.is at c.column_chain.ensures in
    on_next c.loop-c.invariant (omega arith) d

pub returns-in_default : goal.returns-in_default
returns-in_default c =
    let d = rw c.in_default.is at c.column_chain.ensures in
    sym (broken c.loop-c.invariant.sized (omega arith) d)

pub returns-in_default-free_chain : goal.returns-in_default-free_chain
returns-in_default-free_chain c =
    let d = rw c.in_default-free_chain.is at c.free_chain.ensures in
    sym (broken c.loop-c.invariant.sized (omega arith) d)

pub overflow_add-result : goal.overflow_add-result
overflow_add-result c =
    let d = rw c.in-Some-free_chain.is at c.free_chain.ensures in
    omega (arith, end_fits c.loop-c.invariant (omega arith) d)

pub returns : goal.returns
returns c =
    let d = rw c.in-Some-free_chain.is at c.free_chain.ensures in
    ended c.loop-c.invariant (omega arith) d
