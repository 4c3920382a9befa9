-- `keeps_order` meets its contract: no pair of edges before i changes order, and u is vertex i, while there is one. Assumes nothing.
use Prim.Native.Nat.{◌<◌}
use mathlib.Core.Path.{◌≡◌}
use mathlib.Core.Bool.{false}
use Rattle.defs.specs.Meaning.Outline.{sides}
use Rattle.outline.specs.Vertex.{VertexOf}
use Rattle.outline.specs.Shape.{shape}
use Rattle.checks.specs.Order.{pairsb}
use Rattle.checks.proofs.keeps_order.Given as goal

abbrev pub invariant-loop-i : goal.invariant-loop-i
invariant-loop-i l = record {
  none : pairsb (shape l.o) l.i ≡ false;
  here : l.i < sides l.o.words.now → VertexOf l.o.words.now l.o.frame.turn l.i l.u.x l.u.y;
}
