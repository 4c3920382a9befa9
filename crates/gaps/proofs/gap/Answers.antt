-- `gap` meets its contract: it joins the rows from the lower entry's foot to the upper one's top to the runs, if the two are not level.
-- Where there are none, the runs are left as they are. Assumes nothing.
use mathlib.Core.Path.{refl}
use native.Mathlib.Omega.{arith}
use Rattle.gaps.proofs.Adding.{upper_fit, gap_join, gap_flat, room_more}
use Rattle.gaps.proofs.gap.Goals as goal

pub join-requires-clause-fact_2 : goal.join-requires-clause-fact_2
join-requires-clause-fact_2 c = let r = c.requires.fact_3 in (omega (arith, room_more r, r.long), omega (arith, room_more r, r.high_long))

pub returns-then-lo-hi : goal.returns-then-lo-hi
returns-then-lo-hi c =
    let p = c.requires in
    gap_join _ _ _ _ (upper_fit p.fact_1 c.args.x p.fact_2) c.foot-lo.ensures c.top-hi.ensures c.if-h0-x.true refl refl c.join.ensures

pub returns-else-lo-hi : goal.returns-else-lo-hi
returns-else-lo-hi c =
    let p = c.requires in
    gap_flat _ _ _ _ (upper_fit p.fact_1 c.args.x p.fact_2) c.foot-lo.ensures c.top-hi.ensures p.fact_3 c.if-lo-hi.false
