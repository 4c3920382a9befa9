-- `round_range` meets its contract: no column of the range before the one that is tried has a free height.
-- Assumes nothing.
use Prim.Native.Nat.{◌-◌, ◌≤◌}
use Rattle.round.proofs.Ranges.{FullTo}
use Rattle.round.proofs.round_range.Given as goal

abbrev pub invariant-loop-c : goal.invariant-loop-c
invariant-loop-c l = FullTo l.s.first.now l.s.lows.now l.s.highs.now l.s.runs.now l.s.columns l.s.width l.s.count l.s.tall l.from l.c × (l.start ≤ l.s.count - 1)
