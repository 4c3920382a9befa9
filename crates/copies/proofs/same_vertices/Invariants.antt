-- Both chains are followed while their vertices are the same. Assumes nothing.
use Prim.Native.Nat.{◌<◌}
use Rattle.copies.proofs.Alike.{Alike}
use Rattle.copies.proofs.same_vertices.Given as goal

abbrev pub invariant-loop-i : goal.invariant-loop-i
invariant-loop-i l = Alike l.sheet l.x l.y l.i l.j l.left × (l.i < 65536) × (l.j < 65536)

abbrev pub decreases-loop-i : goal.decreases-loop-i
decreases-loop-i l = l.left
