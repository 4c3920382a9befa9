-- `walk_turn` meets its contract: no column before the one that is tried has a free height, and its tries are counted.
-- Assumes nothing.
use mathlib.Core.Path.{refl}
use mathlib.Core.Logic.{inl}
use native.Mathlib.Omega.{arith}
use Rattle.walk.proofs.Counts.{turn_start, turn_more, turn_found, turn_end, none_walked}
use Rattle.walk.proofs.walk_turn.Goals as goal

pub loop-c-init : goal.loop-c-init
loop-c-init c = turn_start _ _ _ _ _ _ _ _ _

pub overflow_add-tries : goal.overflow_add-tries
overflow_add-tries c = omega (arith, c.loop-c.invariant.few, c.walk_column-x.ensures.few)

pub returns-in-Some : goal.returns-in-Some
returns-in-Some c =
    let inv = c.loop-c.invariant in
    let x = c.walk_column-x.ensures in
    record {
      spot = record { fits = omega arith; height = rw c.in-Some.is at x.height; least = inv.left.none };
      steps = turn_found inv (omega arith) (rw c.in-Some.is at x.steps);
      few = omega (arith, inv.few, x.few);
    }

pub loop-c-preserved : goal.loop-c-preserved
loop-c-preserved c =
    let inv = c.loop-c.invariant in
    let x = c.walk_column-x.ensures in
    turn_more inv (omega arith) (rw c.in_default.is at x.height) (rw c.in_default.is at x.steps) x.few

pub returns-after-loop-c : goal.returns-after-loop-c
returns-after-loop-c c =
    let inv = c.loop-c.invariant in
    record {
      spot = λ x e. inv.left.none x (omega arith);
      steps = turn_end inv (omega arith);
      few = omega (arith, inv.few, inv.within);
    }

pub returns-else-s : goal.returns-else-s
returns-else-s c = none_walked (inl (omega arith)) refl
