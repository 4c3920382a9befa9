-- Each way out by what its tests say of the byte. Assumes nothing.
use native.Mathlib.Omega.{arith}
use borrow.Author.Rules.{rules}
use Rattle.pathsteps.proofs.Cases.{past_end, is_close, is_cut, is_move, is_line, is_nothing}
use Rattle.pathsteps.proofs.step_at.Goals as goal

pub returns-then-path-at : goal.returns-then-path-at
returns-then-path-at c = past_end _ _ c.if-path-at.true

pub returns-then-kind-eq-CLOSE : goal.returns-then-kind-eq-CLOSE
returns-then-kind-eq-CLOSE c = is_close _ _ c.if-path-at.false c.if-kind-eq-CLOSE.true

pub returns-then-path-at-lt-STEP_BYTES : goal.returns-then-path-at-lt-STEP_BYTES
returns-then-path-at-lt-STEP_BYTES c = is_cut _ _ c.if-path-at.false c.if-kind-eq-CLOSE.false c.if-path-at-lt-STEP_BYTES.true

pub returns-in-1 : goal.returns-in-1
returns-in-1 c = is_move _ _ c.if-path-at.false c.if-kind-eq-CLOSE.false c.if-path-at-lt-STEP_BYTES.false c.point_at-x.ensures c.in-1.is

pub returns-in-2 : goal.returns-in-2
returns-in-2 c =
    is_line _ _ c.if-path-at.false c.if-kind-eq-CLOSE.false c.if-path-at-lt-STEP_BYTES.false (λ e. omega (arith, e, c.in-2.is))
    c.point_at-x.ensures c.in-2.is

pub returns-in_default : goal.returns-in_default
returns-in_default c = is_nothing _ _ c.if-path-at.false c.if-kind-eq-CLOSE.false c.if-path-at-lt-STEP_BYTES.false (search rules) (search rules)
