-- One turn is counted, and searched where its runs fit. Assumes nothing.
use mathlib.Core.Path.{refl, ap}
use Rattle.std.specs.Prelude.{Some}
use Rattle.best.proofs.Turns.{too_many, stands, put_kept, frame, full_before, spot_fits, turn_tried, ready}
use Rattle.best.proofs.try_turn.Goals as goal

pub put_turn-k-requires : goal.put_turn-k-requires
put_turn-k-requires c = let pre = c.requires in let set = ready c.args.board pre.lent pre.bounds in record {
  fact_1 = pre.lent;
  fact_2 = pre.bounds;
  fact_3 = (pre.turn, c.extent_of-e.ensures.0);
  fact_4 = pre.order;
  fact_5 = (record { least = set.least; most = set.most }, set.gap);
}

pub returns-then-work-k : goal.returns-then-work-k
returns-then-work-k c = record {
  tried = too_many c.put_turn-k.ensures _ _ _ _ _ c.if-work-k.true;
  kept = put_kept c.put_turn-k.ensures;
}

pub invariant_of-s : goal.invariant_of-s
invariant_of-s c = let pre = ready c.args.board c.requires.lent c.requires.bounds in let fits = stands c.put_turn-k.ensures c.if-work-k.false in let extent = c.extent_of-e.ensures in record {
  framed = frame _ _ _ _ pre.least pre.gap pre.table fits extent.0 c.columns_for.ensures extent.1;
  low = pre.width;
}

pub search-x-requires : goal.search-x-requires
search-x-requires c = let pre = ready c.args.board c.requires.lent c.requires.bounds in let fits = stands c.put_turn-k.ensures c.if-work-k.false in let extent = c.extent_of-e.ensures in record {
  columns = pre.columns;
  positive = pre.least;
  full = full_before _ _ _ _ pre.least pre.gap pre.table fits extent.0 c.columns_for.ensures extent.1 _ c.requires.none_before;
}

pub returns-in_default : goal.returns-in_default
returns-in_default c = let pre = ready c.args.board c.requires.lent c.requires.bounds in let fits = stands c.put_turn-k.ensures c.if-work-k.false in let extent = c.extent_of-e.ensures in record {
  tried = turn_tried _ _ _ _ pre.least pre.gap pre.table fits extent.0 c.columns_for.ensures extent.1 _ _ _ c.search-x.result c.search-x.ensures (rw c.in_default.is refl);
  kept = put_kept c.put_turn-k.ensures;
}

pub rank-requires : goal.rank-requires
rank-requires c = let pre = ready c.args.board c.requires.lent c.requires.bounds in let fits = stands c.put_turn-k.ensures c.if-work-k.false in let extent = c.extent_of-e.ensures in spot_fits _ _ _ _ pre.least pre.gap pre.table fits extent.0 c.columns_for.ensures extent.1 pre.width pre.columns c.search-x.ensures c.in-Some.is

pub returns : goal.returns
returns c = let pre = ready c.args.board c.requires.lent c.requires.bounds in let fits = stands c.put_turn-k.ensures c.if-work-k.false in let extent = c.extent_of-e.ensures in record {
  tried = turn_tried _ _ _ _ pre.least pre.gap pre.table fits extent.0 c.columns_for.ensures extent.1 _ _ _ c.search-x.result c.search-x.ensures (rw c.in-Some.is (ap Some c.rank.ensures));
  kept = put_kept c.put_turn-k.ensures;
}
