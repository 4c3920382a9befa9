-- `row` meets its contract: the edges looked at do not change order with e, and p is what is read of the next one's first y. Assumes nothing.
use mathlib.Core.Path.{◌≡◌}
use mathlib.Core.Bool.{false}
use Rattle.defs.specs.Computing.Vertices.{read_y}
use Rattle.outline.specs.Vertex.{edge_of}
use Rattle.outline.specs.Shape.{shape}
use Rattle.checks.specs.Order.{rowb}
use Rattle.checks.proofs.row.Given as goal

abbrev pub invariant-loop-j : goal.invariant-loop-j
invariant-loop-j l = record {
  none : rowb (shape l.o) (edge_of l.e.xl l.e.yl l.e.xr l.e.yr) l.j ≡ false;
  first : l.p ≡ read_y l.o.words.now l.o.frame.turn l.j;
}
