-- One record after another that leads on. Assumes nothing.
use Rattle.striprecords.specs.Free.{InOrder}
use Rattle.striprecords.proofs.in_order.Given as goal

abbrev pub invariant-loop-e : goal.invariant-loop-e
invariant-loop-e l = InOrder l.s l.g.records l.r l.e
