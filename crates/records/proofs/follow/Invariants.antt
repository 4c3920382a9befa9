-- What is left of the chain decides the whole, and the count of records left ends the loop. Assumes nothing.
use Prim.Native.Nat.{◌<◌, ◌+◌}
use Rattle.reader.specs.Records.{record_number}
use Rattle.sheets.proofs.Chains.{Walk}
use Rattle.records.proofs.follow.Given as goal

abbrev pub invariant-loop-at : goal.invariant-loop-at
invariant-loop-at l = Walk (λ x. record_number l.sheet (l.base + x) 2) l.most l.limit l.first l.at l.left × (l.at < 65536)

abbrev pub decreases-loop-at : goal.decreases-loop-at
decreases-loop-at l = l.left
