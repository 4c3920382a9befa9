-- The walk along a column's chain. The measure: rows are left above the last run. Assumes nothing.
use mathlib.Core.Path.{◌≡◌}
use native.Mathlib.Omega.{arith}
use borrow.Author.Rules.{rules}
use Rattle.std.specs.Prelude.{None}
use Rattle.chains.proofs.Walks.{column_start, column_wrong, column_next, column_end}
use Rattle.chains.proofs.column_chain.Goals as goal

pub loop-at-init : goal.loop-at-init
loop-at-init c = column_start c.requires.fact_1 (omega arith) c.word-at.ensures.value

pub returns-in_err-m : goal.returns-in_err-m
returns-in_err-m c =
    let e : c.from_residual.result ≡ None = search rules in
    let x = rw c.in_err-m.was at c.check_run.ensures in
    rw e (column_wrong c.loop-at.invariant (omega arith) (omega arith) x)

pub loop-at-preserved : goal.loop-at-preserved
loop-at-preserved c =
    let x = rw c.in_ok-m.was at c.check_run.ensures in
    column_next c.loop-at.invariant (omega arith) x c.word_of-at.ensures.value

pub returns : goal.returns
returns c = column_end c.loop-at.invariant (omega arith) (omega arith)
