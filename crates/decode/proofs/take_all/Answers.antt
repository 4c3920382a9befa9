-- The walk over all chains, column after column of the table. Assumes nothing.
use mathlib.Core.Path.{◌≡◌}
use Prim.Native.Nat.{ℕ}
use native.Mathlib.Omega.{arith}
use lib.ListN.{length-set}
use borrow.Author.Rules.{rules}
use Rattle.std.specs.Prelude.{None}
use Rattle.form.proofs.Totals.{on_start, on_fits, end_fits, broken}
use Rattle.decode.proofs.Tabs.{tabs_start, tabs_room, tabs_most, tabs_next, tabs_end, tabs_short}
use Rattle.decode.proofs.take_all.Goals as goal

pub loop-c-init : goal.loop-c-init
loop-c-init c = tabs_start c.args.first.now (omega arith) (on_start c.requires.sized)

pub take_runs-requires-clause-within : goal.take_runs-requires-clause-within
take_runs-requires-clause-within c = (omega arith, tabs_most c.loop-c.invariant)

pub take_runs-requires-clause-fits : goal.take_runs-requires-clause-fits
take_runs-requires-clause-fits c = tabs_room c.loop-c.invariant

pub returns-in_err-t : goal.returns-in_err-t
returns-in_err-t c =
    let e : c.from_residual.result ≡ None = search rules in
    let d = rw c.in_err-t.was at c.take_runs.ensures in
    rw e (broken c.requires.sized (omega arith) d)

pub overflow_add-t : goal.overflow_add-t
overflow_add-t c =
    let d = rw c.in_ok-t.was at c.take_runs.ensures in
    omega (arith, on_fits c.loop-c.invariant.on _ d.chain)

pub overflow_cast-first : goal.overflow_cast-first
overflow_cast-first c =
    let d = rw c.in_ok-t.was at c.take_runs.ensures in
    omega (arith, on_fits c.loop-c.invariant.on _ d.chain)

pub loop-c-preserved : goal.loop-c-preserved
loop-c-preserved c =
    let d = rw c.in_ok-t.was at c.take_runs.ensures in
    tabs_next c.loop-c.invariant (omega arith) (omega (arith, length-set {A = ℕ})) d

pub returns-in_err-k : goal.returns-in_err-k
returns-in_err-k c =
    let e : c.from_residual-in_err-k.result ≡ None = search rules in
    let d = rw c.in_err-k.was at c.free_chain.ensures in
    rw e (broken c.requires.sized (omega arith) d)

pub overflow_add-t-2 : goal.overflow_add-t-2
overflow_add-t-2 c =
    let d = rw c.in_ok-k.was at c.free_chain.ensures in
    omega (arith, end_fits c.loop-c.invariant.on (omega arith) d)

pub returns-then-t-k : goal.returns-then-t-k
returns-then-t-k c =
    let d = rw c.in_ok-k.was at c.free_chain.ensures in
    tabs_end c.loop-c.invariant (omega arith) d c.if-t-k.true (omega (arith, length-set {A = ℕ})) (omega arith) (omega arith)

pub returns-else-t-k : goal.returns-else-t-k
returns-else-t-k c =
    let d = rw c.in_ok-k.was at c.free_chain.ensures in
    tabs_short c.loop-c.invariant (omega arith) d c.if-t-k.false
