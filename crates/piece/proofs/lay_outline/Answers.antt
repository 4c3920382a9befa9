-- The answer, its entry and its tally. Assumes nothing.
use Rattle.checks.proofs.Bounded.{has_vertex, lent_of}
use Rattle.piece.proofs.Currents.{piece_laid}
use Rattle.piece.proofs.lay_outline.Goals as goal

pub bounds_of-b-requires : goal.bounds_of-b-requires
bounds_of-b-requires c = has_vertex _ c.requires.fact_2.seven

pub place_current-x-requires : goal.place_current-x-requires
place_current-x-requires c = let pre = c.requires in record {
  fact_1 = pre.fact_1;
  fact_2 = pre.fact_2;
  fact_3 = c.bounds_of-b.ensures;
  fact_4 = pre.fact_5;
}

pub right_of-right-requires : goal.right_of-right-requires
right_of-right-requires c = let y = c.requires.fact_2 in record {
  fact_1 = lent_of _ y.seven y.eight;
  fact_2 = c.bounds_of-b.ensures;
  fact_3 = c.place_current-x.ensures.fits.turn;
}

pub put_entry-requires : goal.put_entry-requires
put_entry-requires c = let pre = c.requires in (pre.fact_3.first, pre.fact_4)

pub counted-requires : goal.counted-requires
counted-requires c = c.requires.fact_3

pub returns : goal.returns
returns c = piece_laid c.place_current-x.ensures c.fate_of.ensures c.put_entry.ensures c.right_of-right.ensures c.counted.ensures
