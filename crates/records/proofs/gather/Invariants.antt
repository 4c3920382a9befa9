-- The vertices still to copy, stored where they go, give the whole. Assumes nothing.
use Prim.Native.Nat.{◌<◌, ◌-◌}
use Rattle.records.proofs.Copies.{Gathering}
use Rattle.records.proofs.gather.Given as goal

abbrev pub invariant-loop-at : goal.invariant-loop-at
invariant-loop-at l = Gathering l.sheet l.vertices l.first l.initial.words l.words l.at l.k × (l.at < 65536)

abbrev pub decreases-loop-at : goal.decreases-loop-at
decreases-loop-at l = 64 - l.k
