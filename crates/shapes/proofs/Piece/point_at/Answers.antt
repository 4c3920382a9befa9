-- The vertex of the moved piece. Assumes nothing.
use mathlib.Core.Path.{◌≡◌}
use Rattle.std.proofs.Common.{rules}
use Rattle.shapes.proofs.Points.{point_is}
use Rattle.shapes.proofs.Piece.point_at.Goals as goal

pub returns : goal.returns
returns c =
    let turned : c.args.self.now.outline.frame.turn ≡ c.args.self.now.position.turn = search rules in
    point_is c.requires turned c.vertex-v.ensures c.moved.ensures.across c.moved.ensures.up
