-- The table is that of the strip. Assumes nothing.
use native.Mathlib.Omega.{arith}
use Rattle.wanted.proofs.Tables.{leading, limits_of, gap_of_lem, records_few, laid_on, looked}
use Rattle.wanted.proofs.look_decoded.Goals as goal

pub bounds-strip-0 : goal.bounds-strip-0
bounds-strip-0 c = omega (arith, leading c.requires.holds)

pub bounds-strip-1 : goal.bounds-strip-1
bounds-strip-1 c = omega (arith, leading c.requires.holds)

pub bounds-strip-2 : goal.bounds-strip-2
bounds-strip-2 c = omega (arith, leading c.requires.holds)

pub bounds-strip-4 : goal.bounds-strip-4
bounds-strip-4 c = omega (arith, leading c.requires.holds)

pub invariant_of-board : goal.invariant_of-board
invariant_of-board c = let held = c.requires.holds in let l = limits_of held in record {
  resolution = (l.resolution.at_least, l.resolution.at_most);
  limits = (gap_of_lem held, l.width.at_most, l.columns.at_most);
  table = laid_on held;
}

pub on_table-requires : goal.on_table-requires
on_table-requires c = let room = c.requires.room in record {
  records = records_few c.requires.holds c.records_of.ensures;
  firsts = room.0;
  lows = room.1;
  highs = room.2;
}

pub returns : goal.returns
returns c = looked c.requires.holds c.records_of.ensures c.on_table.ensures
