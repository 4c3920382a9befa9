-- The first refusal of the whole list is that of the pieces still to come. Assumes nothing.
use Prim.Native.Nat.{◌+◌, ◌-◌}
use lib.ListN.{get_or}
use Rattle.lists.proofs.Asking.{Asking}
use Rattle.lists.proofs.first_no.Given as goal

abbrev pub invariant-loop-k : goal.invariant-loop-k
invariant-loop-k l = Asking l.list l.a (get_or l.list 0 0 - l.k) (l.k + 1) l.v
