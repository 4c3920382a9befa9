-- `ask_outline` meets its contract: 11 is asked where none of 7 to 10 gets "no", which gives its call what it requires. Assumes nothing.
use mathlib.Core.Path.{◌≡◌}
use native.Mathlib.Omega.{arith}
use borrow.Author.Rules.{rules}
use Rattle.std.specs.Prelude.{Err}
use Rattle.geom.proofs.Checks.{question_10}
use Rattle.checks.proofs.Bounded.{lent_of}
use Rattle.asked.proofs.InOrder.{ordered, some_no, no_11, no_no}
use Rattle.asked.proofs.ask_outline.Goals as goal

pub some_cell-requires : goal.some_cell-requires
some_cell-requires c = let p = rw c.in_ok-b.was at c.order.ensures in let y = ordered _ _ _ p.0 in record {
  fact_1 = lent_of _ y.seven y.eight;
  fact_2 = p.1;
  fact_3 = (question_10 _ _).0 y.ten;
}

pub returns-then-some_cell : goal.returns-then-some_cell
returns-then-some_cell c = let p = rw c.in_ok-b.was at c.order.ensures in no_no _ _ _ (ordered _ _ _ p.0) c.some_cell.ensures c.if-some_cell.true

pub returns-else-some_cell : goal.returns-else-some_cell
returns-else-some_cell c = let p = rw c.in_ok-b.was at c.order.ensures in (no_11 _ _ _ (ordered _ _ _ p.0) c.some_cell.ensures c.if-some_cell.false, omega arith)

pub returns-in_err-b : goal.returns-in_err-b
returns-in_err-b c =
    let e : c.from_residual.result ≡ Err c.in_err-b.field-0.0 = search rules in
    let p = rw c.in_err-b.was at c.order.ensures in
    rw e (some_no _ _ _ p.0 p.1, p.1)
