-- `gap_column` meets its contract: the runs of the unit columns are raised.
-- Assumes nothing.
use native.Mathlib.Omega.{arith}
use Rattle.gapcolumn.proofs.Raisings.{high_limit, gap_column_of}
use Rattle.gapcolumn.proofs.gap_column.Goals as goal

pub raise-runs-requires-clause-fact_3 : goal.raise-runs-requires-clause-fact_3
raise-runs-requires-clause-fact_3 c =
    let p = c.requires in λ i s. omega (arith, high_limit c.args.o.lent c.args.o.framed.turn p.ordered c.column-c.ensures i s, p.room.gap)

pub returns : goal.returns
returns c =
    let p = c.requires in
    gap_column_of c.args.o.lent c.args.o.framed.turn p.ordered c.column-c.ensures c.saturating_sub-from.ensures c.min-to.ensures c.raise-runs.ensures
