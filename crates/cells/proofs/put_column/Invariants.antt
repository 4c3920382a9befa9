-- `put_column` stores the words of a column's runs: three stores are the next run's words, and when no run is left, nothing is left to
-- store.
-- Assumes nothing.
use Rattle.cells.proofs.Words.{Storing}
use Rattle.cells.proofs.put_column.Given as goal

abbrev pub invariant-loop-j : goal.invariant-loop-j
invariant-loop-j l = Storing l.lows l.highs l.n l.i l.initial.out l.out l.at l.j l.p
