-- `eight` meets its contract: each word is an x or a y, so at most the greatest of its kind. Assumes nothing.
use mathlib.Core.Path.{◌∙◌}
use native.Mathlib.Omega.{arith}
use borrow.Author.Tests.{lt-leb}
use Rattle.checks.proofs.Bounded.{as_tall, too_wide}
use Rattle.checks.proofs.eight.Goals as goal

pub returns-then-b-le-MOST_COORDINATE : goal.returns-then-b-le-MOST_COORDINATE
returns-then-b-le-MOST_COORDINATE c = let p = c.requires in as_tall _ p.fact_1 p.fact_2 c.if-b-le-MOST_COORDINATE.true

pub returns-else-b-le-MOST_COORDINATE : goal.returns-else-b-le-MOST_COORDINATE
returns-else-b-le-MOST_COORDINATE c =
    let p = c.requires in
    lt-leb _ _ c.if-b-le-MOST_COORDINATE.false ∙ too_wide _ p.fact_1 p.fact_2 (omega (arith, c.if-b-le-MOST_COORDINATE.false))
