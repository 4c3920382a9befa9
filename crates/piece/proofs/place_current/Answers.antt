-- The current table is lent, and the other one is written. Assumes nothing.
use Rattle.piece.proofs.Currents.{tabled, swapped, roomy, placed_first, placed_second}
use borrow.Author.Rules.{rules}
use Rattle.piece.proofs.place_current.Goals as goal

pub place_asked-requires : goal.place_asked-requires
place_asked-requires c = record {
  fact_1 = tabled (swapped (rw c.if-second.true at c.requires.fact_1));
  fact_2 = c.requires.fact_2;
  fact_3 = c.requires.fact_3;
  fact_4 = rw c.if-second.true at c.requires.fact_4;
}

pub place_asked-requires-else-second : goal.place_asked-requires-else-second
place_asked-requires-else-second c = record {
  fact_1 = tabled (rw c.if-second.false at c.requires.fact_1);
  fact_2 = c.requires.fact_2;
  fact_3 = c.requires.fact_3;
  fact_4 = rw c.if-second.false at c.requires.fact_4;
}

pub returns-then-second : goal.returns-then-second
returns-then-second c = rw c.if-second.true (placed_second (rw c.if-second.true at c.requires.fact_1) (roomy c.requires.fact_1.room (search rules) (search rules) (search rules)) c.place_asked.ensures.placed)

pub returns-else-second : goal.returns-else-second
returns-else-second c = rw c.if-second.false (placed_first (rw c.if-second.false at c.requires.fact_1) (roomy c.requires.fact_1.room₂ (search rules) (search rules) (search rules)) c.place_asked-else-second.ensures.placed)
