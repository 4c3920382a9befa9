-- `side` meets its contract: the edge between vertex i and the one after it is edge i.
-- Assumes nothing.
use Rattle.outline.proofs.Vertices.{side_between}
use Rattle.outline.proofs.Turned.side.Goals as goal

pub returns : goal.returns
returns c = side_between c.next.ensures.0 c.vertex.ensures c.vertex-2.ensures c.side_of.ensures
