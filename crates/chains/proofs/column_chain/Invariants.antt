-- The walk along a column's chain. The measure: rows are left above the last run. Assumes nothing.
use Prim.Native.Nat.{◌-◌, ◌+◌}
use Rattle.chains.proofs.Walks.{OnColumn}
use Rattle.chains.proofs.column_chain.Given as goal

abbrev pub invariant-loop-at : goal.invariant-loop-at
invariant-loop-at l = OnColumn l.s l.g.records l.c l.k l.at l.m

abbrev pub decreases-loop-at : goal.decreases-loop-at
decreases-loop-at l = l.g.width + 1 - l.m
