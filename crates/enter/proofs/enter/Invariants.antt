-- `enter` meets its contract: the first k columns of the new table are entered, and have no more runs than they may.
-- Assumes nothing.
use Prim.Native.Nat.{◌≤◌}
use Rattle.enter.proofs.Building.{Building}
use Rattle.enter.proofs.enter.Given as goal

abbrev pub invariant-loop-k : goal.invariant-loop-k
invariant-loop-k l =
    (l.b.runs ≤ l.g.most) × Building l.first l.lows l.highs l.runs l.first2 l.lows2 l.highs2 l.g l.k l.b
