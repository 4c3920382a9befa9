-- One record after another that leads on. Assumes nothing.
use mathlib.Core.Path.{◌≡◌}
use native.Mathlib.Omega.{arith}
use Rattle.striprecords.proofs.Orders.{order_none, order_more}
use Rattle.striprecords.proofs.in_order.Goals as goal

pub returns-then-r-lt1 : goal.returns-then-r-lt1
returns-then-r-lt1 c = order_none _ _ _

pub loop-e-init : goal.loop-e-init
loop-e-init c = order_none _ _ _

pub loop-e-preserved : goal.loop-e-preserved
loop-e-preserved c =
    let x = c.leads_on.ensures.0 c.if-not-leads_on.false in
    order_more c.loop-e.invariant (omega arith) (omega arith) x

pub returns : goal.returns
returns c =
    let e : c.loop-e.e ≡ c.max.result = grind arith in
    rw e at c.loop-e.invariant
