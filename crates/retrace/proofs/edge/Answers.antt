-- `edge` meets its contract: the edge between vertex i and the one after it. Assumes nothing.
use mathlib.Core.Path.{refl}
use Rattle.retrace.proofs.Scan.{edge_is}
use Rattle.retrace.proofs.edge.Goals as goal

pub returns : goal.returns
returns c = edge_is _ _ _ _ c.requires.fact_1 refl c.next-j.ensures.0 c.side_of.ensures
