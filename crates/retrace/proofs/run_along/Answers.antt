-- `run_along` meets its contract: the tests are asked one after another. Assumes nothing.
use mathlib.Core.Bool.{true≢false}
use mathlib.Core.Path.{sym, ◌∙◌}
use borrow.Author.Tests.{le-ltb}
use Rattle.retrace.proofs.Along.{run_apart, run_not, run_level}
use Rattle.retrace.proofs.run_along.Goals as goal
use Rattle.retrace.proofs.run_along.Goals.{then-a-b, else-a-b}

pub returns-then-rise_alike : goal.returns-then-rise_alike
returns-then-rise_alike c = elim c.if-a-b.branch [
  | then-a-b w ↦ run_level _ _ c.max-a.ensures c.min-b.ensures w.if-a-b.true w.rise_alike.ensures (sym w.value-is ∙ c.if-rise_alike.true) c.level_at.ensures
  | else-a-b w ↦ absurd (true≢false (sym c.if-rise_alike.true ∙ w.value-is ∙ le-ltb _ _ w.if-a-b.false))
]

pub returns-else-rise_alike : goal.returns-else-rise_alike
returns-else-rise_alike c = elim c.if-a-b.branch [
  | then-a-b w ↦ c.if-rise_alike.false ∙ run_not _ _ c.max-a.ensures c.min-b.ensures w.if-a-b.true w.rise_alike.ensures (sym w.value-is ∙ c.if-rise_alike.false)
  | else-a-b w ↦ w.value-is ∙ le-ltb _ _ w.if-a-b.false ∙ run_apart _ _ c.max-a.ensures c.min-b.ensures w.if-a-b.false
]
