-- `swaps` meets its contract: heights at the ends of the common span tell whether two edges change order in it.
-- Assumes nothing.
use mathlib.Core.Path.{◌∙◌}
use Rattle.checks.proofs.Pairs.{changes_yes, changes_no}
use Rattle.checks.proofs.swaps.Goals as goal

pub returns-then-a-b : goal.returns-then-a-b
returns-then-a-b c = c.crosses.ensures ∙ changes_yes _ _ c.max-a.ensures c.min-b.ensures c.if-a-b.true c.height_at-e0.ensures c.height_at-f0.ensures c.height_at-e1.ensures c.height_at-f1.ensures c.from-v.ensures c.from-w.ensures c.from.ensures

pub returns : goal.returns
returns c = changes_no _ _ c.max-a.ensures c.min-b.ensures c.if-a-b.false
