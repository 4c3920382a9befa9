-- `put_runs` counts and stores the runs of all columns: each turn of the loop takes the runs of one column from what is left, and a
-- column that begins at the extent and the gap after it, or later, is past the last one.
-- Assumes nothing.
use mathlib.Core.Path.{◌≡◌}
use Prim.Native.Nat.{◌+◌, ◌-◌}
use lib.ListN.{length}
use Rattle.outline.specs.Shape.{shape}
use Rattle.column.specs.Rows.{Working}
use Rattle.cells.specs.Columns.{column_runs}
use Rattle.cells.proofs.Columns.{Putting}
use Rattle.cells.proofs.put_runs.Given as goal

abbrev pub invariant-loop-start : goal.invariant-loop-start
invariant-loop-start l = record {
  put : Putting (column_runs l.o.words.now l.o.frame.turn l.r l.gap) (l.w + l.gap) l.r l.initial.out l.out l.i l.start l.k;
  working : Working (shape l.o) l.c.slab.start l.c.slab.end l.c.slab.count l.c.slab.cut l.h0 l.h1 l.d l.g0 l.g1 l.lows l.highs;
  long : length l.lows ≡ 8001;
  high_long : length l.highs ≡ 8001;
}

abbrev pub decreases-loop-start : goal.decreases-loop-start
decreases-loop-start l = l.w + l.gap - l.start
