-- A table of a strip is on a board. Assumes nothing.
use Rattle.position.proofs.place_asked.Goals as goal

pub invariant_of-board : goal.invariant_of-board
invariant_of-board c = let t = c.requires.fact_1 in record {
  resolution = (t.limits.resolution.at_least, t.limits.resolution.at_most);
  limits = (t.gap, t.limits.width.at_most, t.limits.columns.at_most);
  table = rw t.table.flat.last t.table;
}

pub place_best-requires : goal.place_best-requires
place_best-requires c = let t = c.requires.fact_1 in record {
  room = record { records = t.records; firsts = t.firsts; lows = t.lows; highs = t.highs };
  ordered = c.requires.fact_2;
  bounds = c.requires.fact_3;
  none_before = c.requires.fact_4;
}
