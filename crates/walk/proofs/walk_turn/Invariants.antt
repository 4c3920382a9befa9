-- `walk_turn` meets its contract: no column before the one that is tried has a free height, and its tries are counted.
-- Assumes nothing.
use Rattle.walk.proofs.Counts.{CountedTurn}
use Rattle.walk.proofs.walk_turn.Given as goal

abbrev pub invariant-loop-c : goal.invariant-loop-c
invariant-loop-c l = CountedTurn l.s.first.now l.s.lows.now l.s.highs.now l.s.runs.now l.s.columns l.s.width l.s.count l.s.wide l.s.tall l.c l.tries
