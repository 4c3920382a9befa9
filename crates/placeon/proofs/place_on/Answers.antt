-- 7 to 10 are asked before the others. Assumes nothing.
use Rattle.tables.proofs.Copies.{none_before_0}
use Rattle.position.proofs.Answers.{passed, refused_to_ten, untried_on, to_ten}
use Rattle.placeon.proofs.place_on.Goals as goal

pub place_best-requires : goal.place_best-requires
place_best-requires c = let p = rw c.in-Ok.is at c.order.ensures in record {
  room = c.requires;
  ordered = passed _ _ c.nine-ninth.ensures p.0;
  bounds = p.1;
  none_before = none_before_0 _ _ _ _ _ _ _;
}

pub returns-in-Err : goal.returns-in-Err
returns-in-Err c = let p = rw c.in-Err.is at c.order.ensures in untried_on _ c.untried.ensures (to_ten _ _ _ _ _ _ _ _ _ c.args.board.resolution.0 (refused_to_ten _ _ c.nine-ninth.ensures p.0 p.1) p.1)
