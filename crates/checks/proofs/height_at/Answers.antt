-- `height_at` meets its contract. Assumes nothing.
use Rattle.checks.proofs.Pairs.{height_from}
use Rattle.checks.proofs.height_at.Goals as goal

pub returns : goal.returns
returns c = height_from c.requires.fact_1 c.requires.fact_2.0 c.requires.fact_2.1 c.from-u.ensures c.from-v.ensures c.from.ensures c.from-2.ensures
