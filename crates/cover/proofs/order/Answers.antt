-- `order` meets its contract: 7 to 10 of the mask that allows the turn alone are those of the turn. Assumes nothing.
use mathlib.Core.Path.{ap, ◌∙◌}
use native.Mathlib.Omega.{arith}
use Rattle.asked.specs.Answers.{order_no}
use Rattle.cover.proofs.Answers.{no_turn, turn_alone, one_bit, said}
use Rattle.cover.proofs.order.Goals as goal

pub returns-then-t-gt-MOST_TURN : goal.returns-then-t-gt-MOST_TURN
returns-then-t-gt-MOST_TURN c = said _ c.order.result (no_turn _ _ c.if-t-gt-MOST_TURN.true) c.order.ensures

pub returns : goal.returns
returns c =
    said _ c.order-2.result (ap (order_no _ _) (one_bit _ (omega (arith, c.if-t-gt-MOST_TURN.false))) ∙ turn_alone _ _ (omega (arith, c.if-t-gt-MOST_TURN.false))) c.order-2.ensures
