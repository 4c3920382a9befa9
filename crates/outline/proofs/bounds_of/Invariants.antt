-- `bounds_of` meets its contract: the bounds are those of the vertices before i. Assumes nothing.
use Prim.Native.Nat.{◌-◌}
use mathlib.Core.Path.{◌≡◌}
use Rattle.defs.specs.Meaning.Outline.{vx, vy}
use Rattle.defs.specs.Computing.Vertices.{least_n, most_n}
use Rattle.outline.proofs.bounds_of.Given as goal

abbrev pub invariant-loop-i : goal.invariant-loop-i
invariant-loop-i l = record {
  left : l.left ≡ least_n (vx l.o) (l.i - 1);
  right : l.right ≡ most_n (vx l.o) (l.i - 1);
  foot : l.foot ≡ least_n (vy l.o) (l.i - 1);
  head : l.head ≡ most_n (vy l.o) (l.i - 1);
}
