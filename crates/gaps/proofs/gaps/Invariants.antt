-- `gaps` meets its contract: it joins the rows of each pair to the runs. The loop's invariant is the contract for the pairs looked at.
-- Assumes nothing.
use mathlib.Core.Path.{◌≡◌}
use Prim.Native.Nat.{◌≤◌, ◌-◌, ◌%◌}
use lib.ListN.{length}
use Rattle.gaps.specs.Gaps.{Paired, Adds}
use Rattle.gaps.proofs.gaps.Given as goal

abbrev pub invariant-loop-low : goal.invariant-loop-low
invariant-loop-low l = record {
  most : l.low ≤ l.m;
  even : l.low % 2 ≡ 0;
  long : length l.lows ≡ length l.initial.lows;
  high_long : length l.highs ≡ length l.initial.highs;
  adds : Adds (Paired l.h0 l.h1 l.w l.low) l.initial.lows l.initial.highs l.lows l.highs l.n l.k;
}

abbrev pub decreases-loop-low : goal.decreases-loop-low
decreases-loop-low l = l.m - l.low
