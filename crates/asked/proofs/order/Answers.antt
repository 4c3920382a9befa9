-- `order` meets its contract: 9 and 10 are asked of an outline that passes 7 and 8. Assumes nothing.
use mathlib.Core.Path.{◌≡◌, sym, ◌∙◌}
use native.Mathlib.Omega.{arith}
use borrow.Author.Rules.{rules}
use Rattle.std.specs.Prelude.{Err}
use Rattle.checks.proofs.Bounded.{lent_by}
use Rattle.asked.proofs.InOrder.{no_bounds, no_9, no_10, none_to_10}
use Rattle.asked.proofs.order.Goals as goal

pub all_keep_order-requires-clause-fact_1 : goal.all_keep_order-requires-clause-fact_1
all_keep_order-requires-clause-fact_1 c = let p = rw c.in_ok-b.was at c.bounds.ensures in lent_by _ p.0

pub returns-in_err-b : goal.returns-in_err-b
returns-in_err-b c =
    let p = rw c.in_err-b.was at c.bounds.ensures in
    let e : c.from_residual.result ≡ Err c.in_err-b.field-0.0 = search rules in
    rw e (no_bounds _ _ _ p.0 p.1, p.1)

pub returns-then-not-ninth : goal.returns-then-not-ninth
returns-then-not-ninth c = let p = rw c.in_ok-b.was at c.bounds.ensures in (no_9 _ _ _ p.0 c.if-not-ninth.true, omega arith)

pub returns-then-not-all_keep_order : goal.returns-then-not-all_keep_order
returns-then-not-all_keep_order c = let p = rw c.in_ok-b.was at c.bounds.ensures in (no_10 _ _ _ p.0 c.if-not-ninth.false (sym c.all_keep_order.ensures ∙ c.if-not-all_keep_order.true), omega arith)

pub returns : goal.returns
returns c = let p = rw c.in_ok-b.was at c.bounds.ensures in (none_to_10 _ _ _ p.0 c.if-not-ninth.false (sym c.all_keep_order.ensures ∙ c.if-not-all_keep_order.false), p.1)
