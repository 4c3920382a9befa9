-- The allowed turns are tried from 0 on. Assumes nothing.
use native.Mathlib.Omega.{arith}
use Rattle.best.proofs.Choices.{no_turns, none_kept, all_turns}
use Rattle.best.proofs.best_turn.Goals as goal

pub loop-t-init : goal.loop-t-init
loop-t-init c = (no_turns _ _ _ _ _ _ _ _ _, none_kept _ _ _ _)

pub allowed_turn-s-requires : goal.allowed_turn-s-requires
allowed_turn-s-requires c = record {
  lent = c.requires.lent;
  bounds = c.requires.bounds;
  turn = omega arith;
  ten = c.requires.ten;
  so_far = rw c.loop-t.auto.work c.loop-t.invariant.0;
  kept = c.loop-t.invariant.1;
}

pub loop-t-preserved : goal.loop-t-preserved
loop-t-preserved c = (rw c.loop-t.auto.work at c.allowed_turn-s.ensures.tried, c.allowed_turn-s.ensures.kept)

pub returns : goal.returns
returns c = record {
  tried = all_turns c.loop-t.auto.t-end c.loop-t-test.false c.loop-t.invariant.0;
  kept = c.loop-t.invariant.1;
}
