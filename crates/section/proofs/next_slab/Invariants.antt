-- `next_slab` meets its contract: the slab from a to its answer is neat, and its entries are loaded.
-- Each end that is tried is a cut, since a lesser end than a cut's is one; its entries are tidy, or it is a unit column. Assumes nothing.
use mathlib.Core.Path.{◌≡◌}
use Prim.Native.Nat.{◌≤◌, ◌-◌}
use lib.ListN.{length}
use Rattle.defs.specs.Meaning.Outline.{sides}
use Rattle.outline.specs.Shape.{shape}
use Rattle.entries.specs.Edges.{Loads}
use Rattle.cuts.specs.Cut.{CutAt}
use Rattle.section.proofs.next_slab.Given as goal

abbrev pub invariant-loop-e : goal.invariant-loop-e
invariant-loop-e l = record {
  left : length l.h0 ≡ 64;
  right : length l.h1 ≡ 64;
  wide : length l.w ≡ 64;
  cut : CutAt (shape l.o) l.a (sides l.o.words.now) l.e;
  loads : Loads (shape l.o) l.a l.e l.h0 l.h1 l.w (sides l.o.words.now) l.l.count l.l.cut;
  most : l.e ≤ l.to;
}

abbrev pub decreases-loop-e : goal.decreases-loop-e
decreases-loop-e l = l.e - l.a
