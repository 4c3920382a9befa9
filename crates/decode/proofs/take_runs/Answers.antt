-- The walk along a column's chain, copying its runs. The measure: rows are left above the last run. Assumes nothing.
use mathlib.Core.Path.{◌≡◌}
use native.Mathlib.Omega.{arith}
use borrow.Author.Rules.{rules}
use Rattle.std.specs.Prelude.{None}
use Rattle.chains.proofs.Walks.{column_wrong}
use Rattle.decode.proofs.Taking.{taking_start, no_room, taking_next, taking_end}
use Rattle.decode.proofs.take_runs.Goals as goal

pub loop-at-init : goal.loop-at-init
loop-at-init c =
    taking_start _ _ c.requires.sized (omega arith) (omega arith) c.word-at.ensures.value

pub returns-then-g-t : goal.returns-then-g-t
returns-then-g-t c =
    no_room c.loop-at.invariant (omega arith)
    c.requires.fits (omega arith)

pub returns-in_err-h : goal.returns-in_err-h
returns-in_err-h c =
    let e : c.from_residual.result ≡ None = search rules in
    let x = rw c.in_err-h.was at c.check_run.ensures in
    rw e (column_wrong c.loop-at.invariant.on (omega arith) (omega arith) x)

pub loop-at-preserved : goal.loop-at-preserved
loop-at-preserved c =
    let x = rw c.in_ok-h.was at c.check_run.ensures in
    taking_next c.loop-at.invariant (omega arith)
    (omega arith) (omega arith) (omega arith) x c.word_of.ensures.value c.word_of-at.ensures.value

pub returns : goal.returns
returns c = taking_end c.loop-at.invariant (omega arith) (omega arith)
