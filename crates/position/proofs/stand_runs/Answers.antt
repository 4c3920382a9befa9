-- The runs stand in the work buffer already, or are put there. Assumes nothing.
use Rattle.position.proofs.Entries.{put_stand, kept_stand}
use Rattle.position.proofs.stand_runs.Goals as goal

pub returns-then-s-t : goal.returns-then-s-t
returns-then-s-t c = kept_stand c.requires.kept c.if-s-t.true c.requires.room.0 c.requires.room.1

pub put_turn-requires : goal.put_turn-requires
put_turn-requires c = let pre = c.requires in record {
  fact_1 = pre.lent;
  fact_2 = pre.bounds;
  fact_3 = (pre.room.0, c.extent_of-e.ensures.0);
  fact_4 = pre.order;
  fact_5 = (record { least = c.args.board.resolution.0; most = c.args.board.resolution.1 }, c.args.board.limits.0);
}

pub returns : goal.returns
returns c = put_stand c.put_turn.ensures c.requires.room.1
