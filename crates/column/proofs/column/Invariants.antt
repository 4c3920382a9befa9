-- `column` meets its contract: the runs hold the rows covered from `from` to `to`, and the slab looked at last is kept.
-- The loop's invariant is the same for the columns from `from` to a: a part of a neat slab is neat, so its rows are those of its unit
-- columns. Assumes nothing.
use mathlib.Core.Path.{◌≡◌}
use Prim.Native.Nat.{◌≤◌, ◌-◌}
use lib.ListN.{length}
use Rattle.outline.specs.Shape.{shape}
use Rattle.geom.specs.Units.{InUnits}
use Rattle.gaps.specs.Gaps.{Adds}
use Rattle.column.specs.Rows.{Working}
use Rattle.column.proofs.column.Given as goal

abbrev pub invariant-loop-a : goal.invariant-loop-a
invariant-loop-a l = record {
  from : l.from ≤ l.a;
  to : l.a ≤ l.to;
  working : Working (shape l.o) l.k.start l.k.end l.k.count l.k.cut l.h0 l.h1 l.w l.g0 l.g1 l.lows l.highs;
  long : length l.lows ≡ length l.initial.lows;
  high_long : length l.highs ≡ length l.initial.highs;
  adds : Adds (InUnits (shape l.o) l.from l.a) l.initial.lows l.initial.highs l.lows l.highs 0 l.n;
}

abbrev pub decreases-loop-a : goal.decreases-loop-a
decreases-loop-a l = l.to - l.a
