-- No more pieces are refused than were passed. Assumes nothing.
use Prim.Native.Nat.{◌≤◌}
use Rattle.frame.proofs.put_refusals.Given as goal

abbrev pub invariant-loop-i : goal.invariant-loop-i
invariant-loop-i l = l.place ≤ l.i
