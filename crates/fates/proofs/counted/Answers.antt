-- Each case of an answer is counted. Assumes nothing.
use mathlib.Core.Path.{sym, ◌∙◌}
use Rattle.fates.proofs.Edges.{counted_ok, counted_err}
use Rattle.fates.proofs.counted.Goals as goal

pub returns-then-is_ok : goal.returns-then-is_ok
returns-then-is_ok c = rw c.max.ensures (counted_ok c.args.t c.args.right c.args.a c.lower_of.ensures (sym c.is_ok.ensures.value ∙ c.if-is_ok.true))

pub returns-else-is_ok : goal.returns-else-is_ok
returns-else-is_ok c = rw c.max.ensures (counted_err c.args.t c.args.right c.args.a c.lower_of.ensures (sym c.is_ok.ensures.value ∙ c.if-is_ok.false))
