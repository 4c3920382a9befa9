-- The walk along the free chain. The measure: at most Q records. Assumes nothing.
use Prim.Native.Nat.{◌-◌}
use Rattle.chains.proofs.Walks.{OnFree}
use Rattle.chains.proofs.free_chain.Given as goal

abbrev pub invariant-loop-at : goal.invariant-loop-at
invariant-loop-at l = OnFree l.s l.g.records l.g.columns l.k l.at

abbrev pub decreases-loop-at : goal.decreases-loop-at
decreases-loop-at l = l.g.records - l.k
