-- `add_runs` meets its contract: the piece's runs a to i - 1 are joined, and there is room for one more.
-- Assumes nothing.
use Rattle.columnentry.specs.Columns.{Added}
use Rattle.columnentry.proofs.add_runs.Given as goal

abbrev pub invariant-loop-i : goal.invariant-loop-i
invariant-loop-i l = Added l.initial.lows l.initial.highs l.lows l.highs l.runs l.base l.t l.u l.top l.y l.a l.i
