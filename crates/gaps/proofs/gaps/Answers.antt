-- `gaps` meets its contract: it joins the rows of each pair to the runs. The loop's invariant is the contract for the pairs looked at.
-- Assumes nothing.
use native.Mathlib.Omega.{arith}
use borrow.Author.Rules.{rules}
use Rattle.gaps.proofs.Adding.{paired_none, paired_more, paired_row, paired_end, room_adds}
use Rattle.gaps.proofs.gaps.Goals as goal

pub loop-low-init : goal.loop-low-init
loop-low-init c = record { most = search rules; even = search rules; long = search rules; high_long = search rules; adds = paired_none _ _ _ c.requires.fact_2 }

pub gap-k-requires-clause-fact_3 : goal.gap-k-requires-clause-fact_3
gap-k-requires-clause-fact_3 c = let i = c.loop-low.invariant in room_adds c.requires.fact_2 i.adds paired_row i.long i.high_long

pub loop-low-preserved : goal.loop-low-preserved
loop-low-preserved c =
    let i = c.loop-low.invariant in
    record {
      most = omega arith;
      even = omega (arith, i.even);
      long = search rules;
      high_long = search rules;
      adds = paired_more _ i.even i.adds c.gap-k.ensures;
    }

pub returns : goal.returns
returns c = let i = c.loop-low.invariant in paired_end i.even i.most c.loop-low-test.false i.adds
