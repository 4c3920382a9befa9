-- `row` meets its contract: the edges looked at do not change order with e, and p is what is read of the next one's first y. Assumes nothing.
use native.Mathlib.Omega.{arith}
use mathlib.Core.Path.{sym, ◌∙◌}
use Rattle.checks.proofs.Pairs.{none_yet, row_more, row_hit, row_end}
use Rattle.checks.proofs.row.Goals as goal

pub loop-j-init : goal.loop-j-init
loop-j-init c = record { none = none_yet _ _; first = c.y-p.ensures }

pub returns-then-changes : goal.returns-then-changes
returns-then-changes c = sym (row_hit _ _ _ _ c.loop-j-test.true (sym c.changes.ensures ∙ c.if-changes.true))

pub loop-j-preserved : goal.loop-j-preserved
loop-j-preserved c = record {
  none = row_more _ _ _ c.loop-j.invariant.none (sym c.changes.ensures ∙ c.if-changes.false);
  first = c.y-q.ensures;
}

pub returns : goal.returns
returns c = row_end _ _ c.loop-j.invariant.none (omega arith)
