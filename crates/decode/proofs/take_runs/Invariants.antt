-- The walk along a column's chain, copying its runs. The measure: rows are left above the last run. Assumes nothing.
use Prim.Native.Nat.{◌-◌, ◌+◌}
use Rattle.decode.proofs.Taking.{Taking}
use Rattle.decode.proofs.take_runs.Given as goal

abbrev pub invariant-loop-at : goal.invariant-loop-at
invariant-loop-at l = Taking l.s l.initial.lows l.initial.highs l.lows l.highs l.g.records l.c l.t l.k l.at l.m

abbrev pub decreases-loop-at : goal.decreases-loop-at
decreases-loop-at l = l.g.width + 1 - l.m
