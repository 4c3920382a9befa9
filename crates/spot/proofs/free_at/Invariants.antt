-- Each run before the last column is tried at its place; the first that meets an occupied run ends it. Assumes nothing.
use Rattle.spot.proofs.Runs.{Clear}
use Rattle.spot.proofs.free_at.Given as goal

abbrev pub invariant-loop-k : goal.invariant-loop-k
invariant-loop-k l = Clear l.s.first.now l.s.lows.now l.s.highs.now l.s.runs.now l.n l.k-end l.c l.y l.k
