-- `round_range` meets its contract: no column of the range before the one that is tried has a free height.
-- Assumes nothing.
use native.Mathlib.Omega.{arith}
use Rattle.round.proofs.Ranges.{full_none, full_more}
use Rattle.round.proofs.round_range.Goals as goal

pub returns-then-s : goal.returns-then-s
returns-then-s c = λ x a b e. record { none = λ z u. absurd (omega arith) }

pub loop-c-init : goal.loop-c-init
loop-c-init c = (full_none _ _ _ _ _ _ _ _ _, omega arith)

pub returns-in-Ok : goal.returns-in-Ok
returns-in-Ok c =
    let g = c.loop-c.invariant.0 in
    record {
      at_least = g.start;
      below = omega arith;
      fits = omega arith;
      height = rw c.in-Ok.is at c.round_column.ensures;
      least = λ b u v. g.none b v u;
    }

pub loop-c-preserved : goal.loop-c-preserved
loop-c-preserved c =
    let stop = rw c.in-Err.is at c.round_column.ensures in
    (full_more c.loop-c.invariant.0 stop.none, omega (arith, stop.among))

pub returns : goal.returns
returns c = λ x a b e. c.loop-c.invariant.0.none x (omega arith) a
