-- `shared_after` meets its contract: no edge between i and j shares a stretch with edge i. Assumes nothing.
use native.Mathlib.Omega.{arith}
use Rattle.laws.proofs.First.{left_next, left_found, left_none}
use Rattle.retrace.proofs.Scan.{begin_later, not_shared, is_shared}
use Rattle.retrace.proofs.shared_after.Goals as goal

pub loop-j-init : goal.loop-j-init
loop-j-init c = begin_later _ _

pub returns-then-shares : goal.returns-then-shares
returns-then-shares c = (left_found _ _ _ (omega arith) c.loop-j.invariant _ (is_shared c.edge-e.ensures c.edge.ensures c.shares.ensures c.if-shares.true), omega arith)

pub loop-j-preserved : goal.loop-j-preserved
loop-j-preserved c = left_next _ _ _ (omega arith) c.loop-j.invariant (not_shared c.edge-e.ensures c.edge.ensures c.shares.ensures c.if-shares.false)

pub returns : goal.returns
returns c = left_none _ _ _ (omega arith) c.loop-j.invariant
