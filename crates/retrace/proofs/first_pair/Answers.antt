-- `first_pair` meets its contract: no edge before i shares a stretch with a later one. Assumes nothing.
use mathlib.Core.Path.{sym}
use native.Mathlib.Omega.{arith}
use Rattle.laws.proofs.First.{left_next, left_found, left_none}
use Rattle.retrace.proofs.Scan.{begin_pairs, pair_found, pair_none}
use Rattle.retrace.proofs.first_pair.Goals as goal

pub loop-i-init : goal.loop-i-init
loop-i-init c = begin_pairs _

pub returns-in-Some : goal.returns-in-Some
returns-in-Some c = sym (left_found _ _ _ (omega arith) c.loop-i.invariant _ (pair_found _ _ _ (rw c.in-Some.is at c.shared_after.ensures).0))

pub loop-i-preserved : goal.loop-i-preserved
loop-i-preserved c = left_next _ _ _ (omega arith) c.loop-i.invariant (pair_none _ _ c.in_default.ensures)

pub returns : goal.returns
returns c = sym (left_none _ _ _ (omega arith) c.loop-i.invariant)
