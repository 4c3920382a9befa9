-- `put_column` stores the words of a column's runs: three stores are the next run's words, and when no run is left, nothing is
-- left to store.
-- Assumes nothing.
use lib.ListN.{length-set}
use native.Mathlib.Omega.{arith}
use Rattle.cells.proofs.Words.{storing_start, storing_next, storing_end}
use Rattle.cells.proofs.put_column.Goals as goal

pub loop-j-init : goal.loop-j-init
loop-j-init c = storing_start _ _ _ _ _ _

pub bounds-out-p-in-loop-j : goal.bounds-out-p-in-loop-j
bounds-out-p-in-loop-j c = simp length-set (omega arith)

pub bounds-out-p-in-loop-j-2 : goal.bounds-out-p-in-loop-j-2
bounds-out-p-in-loop-j-2 c = simp length-set (omega arith)

pub loop-j-preserved : goal.loop-j-preserved
loop-j-preserved c = storing_next c.loop-j.invariant (omega arith)

pub returns : goal.returns
returns c = storing_end c.loop-j.invariant (omega arith)
