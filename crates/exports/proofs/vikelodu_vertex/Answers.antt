-- `vikelodu_vertex` meets its contract. Assumes nothing.
use native.Mathlib.Omega.{arith}
use Rattle.exports.proofs.Reading.{no_turn, no_vertex, vertex}
use Rattle.exports.proofs.vikelodu_vertex.Goals as goal

pub returns-then-t-gt-MOST_TURN : goal.returns-then-t-gt-MOST_TURN
returns-then-t-gt-MOST_TURN c = no_turn _ _ _ c.if-t-gt-MOST_TURN.true

pub returns-then-o-k : goal.returns-then-o-k
returns-then-o-k c = no_vertex _ _ _ (omega (arith, c.if-t-gt-MOST_TURN.false)) c.if-o-k.true

pub returns : goal.returns
returns c = vertex _ _ _ (omega (arith, c.if-t-gt-MOST_TURN.false)) c.frame_of-f.ensures.0 (omega (arith, c.if-o-k.false)) c.x_at-x.ensures c.y_at-y.ensures
