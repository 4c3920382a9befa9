-- `vertex` meets its contract: what is read is the vertex of the turned outline. Assumes nothing.
use Rattle.outline.proofs.Vertices.{vertex_read}
use Rattle.outline.proofs.Turned.vertex.Goals as goal

pub returns : goal.returns
returns c = let t = c.args.self in vertex_read t.lent t.framed c.requires c.x.ensures c.y.ensures
