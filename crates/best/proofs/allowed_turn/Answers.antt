-- An allowed turn is tried and merged; another is passed over. Assumes nothing.
use mathlib.Core.Path.{sym, ◌∙◌}
use native.Mathlib.Omega.{arith}
use Rattle.best.proofs.Choices.{turn_more, turn_skipped}
use Rattle.best.proofs.Turns.{keeps_turn, none_in_turn}
use Rattle.best.proofs.allowed_turn.Goals as goal

pub try_turn-x-requires : goal.try_turn-x-requires
try_turn-x-requires c = let pre = c.requires in let is = c.allows.ensures in let yes = c.if-not-allows.false in record {
  lent = pre.lent;
  bounds = pre.bounds;
  turn = pre.turn;
  order = keeps_turn _ _ _ pre.turn pre.ten.0 is yes;
  none_before = none_in_turn _ _ _ pre.lent c.args.board.resolution.0 c.args.board.table pre.turn pre.ten.0 is yes pre.ten.1;
}

pub merge-requires : goal.merge-requires
merge-requires c = let pre = c.requires in omega (arith, c.try_turn-x.ensures.tried.few, pre.so_far.few, pre.turn)

pub returns : goal.returns
returns c = let pre = c.requires in record {
  tried = rw c.merge.ensures (turn_more _ pre.so_far c.args.board.limits.2 c.args.board.resolution.1 (sym c.allows.ensures ∙ c.if-not-allows.false) c.limit_of-limit.ensures c.try_turn-x.ensures.tried);
  kept = rw c.merge.ensures (c.try_turn-x.ensures.kept);
}

pub returns-then-not-allows : goal.returns-then-not-allows
returns-then-not-allows c = let pre = c.requires in record {
  tried = turn_skipped _ pre.so_far (sym c.allows.ensures ∙ c.if-not-allows.true);
  kept = pre.kept;
}
