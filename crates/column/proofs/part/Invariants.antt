-- `part` meets its contract: it writes the heights of each entry at two distances from the slab's left end.
-- The loop's invariant is the contract for the entries written. Assumes nothing.
use mathlib.Core.Path.{◌≡◌}
use lib.ListN.{length}
use Rattle.column.specs.Rows.{Parted}
use Rattle.column.proofs.part.Given as goal

abbrev pub invariant-loop-x : goal.invariant-loop-x
invariant-loop-x l = record {
  left : length l.g0 ≡ length l.initial.g0;
  right : length l.g1 ≡ length l.initial.g1;
  done : Parted l.h0 l.h1 l.l l.d0 l.d1 l.g0 l.g1 l.x;
}
