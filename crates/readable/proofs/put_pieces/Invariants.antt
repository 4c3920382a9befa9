-- Each piece has room, or the text ends before it. Assumes nothing.
use Rattle.std.proofs.Common.{◌≤◌, length}
use Rattle.readable.proofs.put_pieces.Given as goal

abbrev pub invariant-loop : goal.invariant-loop
invariant-loop l = l.to ≤ length l.out
