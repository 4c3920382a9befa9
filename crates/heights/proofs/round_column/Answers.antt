-- `round_column` meets its contract: no height below the one that is tried is free, and all runs are free there but those that are left. Each
-- try leaves a run less or goes up, so the tries come to an end. Runs past the last column count for nothing.
-- Assumes nothing.
use native.Mathlib.Omega.{arith}
use mathlib.Core.Path.{◌≡◌, refl}
use Prim.Native.Nat.{ℕ, ◌+◌, ◌-◌, ◌≤◌, ◌<◌}
use Rattle.walk.proofs.Jumps.{least_all, none_all}
use Rattle.heights.specs.Rounds.{NextRun, RunsLeft}
use Rattle.heights.proofs.Goings.{going_start, run_left, going_end, going_stop, going_next, asks, asks_part, settled_whole}
use Rattle.heights.proofs.round_column.Goals as goal
use Rattle.heights.proofs.round_column.Goals.{then-start-p, else-start-p, then-y-z, else-y-z}

pub loop-left-init : goal.loop-left-init
loop-left-init c =
    going_start (elim c.if-start-p.branch [ then-start-p w ↦ omega (arith, w.k-is) | else-start-p w ↦ omega (arith, w.k-is) ])

pub settle-z-requires : goal.settle-z-requires
settle-z-requires c = let fr = c.args.s.framed in let g = c.loop-left.invariant in
    let a = asks_part c.args.s.first.now _ _ _ _ (omega (arith, c.runs_before-p.ensures.inside c.loop-left.k (run_left c.loop-left.invariant (omega arith)), c.requires, c.args.s.framed.table.flat.firsts)) (asks fr c.runs_before-p.ensures g (omega (arith, c.requires)) (run_left g (omega arith)) (omega arith) c.args.s.low) in
    record { column = a.0; run = a.1.0; low = a.1.1 }

pub returns-then-top-z : goal.returns-then-top-z
returns-then-top-z c = let fr = c.args.s.framed in let g = c.loop-left.invariant in let b = c.runs_before-p.ensures in let among = run_left g (omega arith) in record { none = none_all (omega (arith, c.requires)) b (going_stop fr (omega (arith, c.requires)) b among g (settled_whole c.args.s.first.now _ _ _ _ (omega (arith, c.runs_before-p.ensures.inside c.loop-left.k (run_left c.loop-left.invariant (omega arith)), c.requires, c.args.s.framed.table.flat.firsts)) c.settle-z.ensures) (omega arith) (omega arith)); among = omega (arith, b.few) }

-- the run that is next, and how many are left
next_up : {k p : ℕ} → k + 1 < p → NextRun k p (k + 1)
next_up l = record { next = λ _. refl; again = λ e. absurd (omega arith) }

next_round : {k p : ℕ} → p ≤ k + 1 → NextRun k p 0
next_round l = record { next = λ e. absurd (omega arith); again = λ _. refl }

rises : {y z p left n : ℕ} → 0 < left → left ≤ p → y < z → n ≡ p - 1 → RunsLeft y z p left n
rises a b l e = record { rose = λ _. omega arith; stayed = λ m. absurd (omega arith) }

stays : {y z p left n : ℕ} → 0 < left → z ≤ y → n ≡ left - 1 → RunsLeft y z p left n
stays a l e = record { rose = λ m. absurd (omega arith); stayed = λ _. omega arith }

pub loop-left-preserved-then-k-p : goal.loop-left-preserved-then-k-p
loop-left-preserved-then-k-p c =
    let g = c.loop-left.invariant in
    let few : c.loop-left.left ≤ c.runs_before-p.result = g.few in
    let left : RunsLeft c.loop-left.y c.settle-z.result c.runs_before-p.result c.loop-left.left c.if-y-z.left =
    elim c.if-y-z.branch [
      | then-y-z w ↦ rises (omega arith) few w.if-y-z.true w.left-is
      | else-y-z w ↦ stays (omega arith) w.if-y-z.false w.left-is
    ] in
    let fits : c.args.c ≤ c.args.s.columns = omega (arith, c.requires) in
    going_next c.args.s.framed fits c.runs_before-p.ensures (run_left g (omega arith)) g
    (settled_whole c.args.s.first.now _ _ _ _ (omega (arith, c.runs_before-p.ensures.inside c.loop-left.k (run_left g (omega arith)), c.requires, c.args.s.framed.table.flat.firsts)) c.settle-z.ensures) (omega arith) (omega arith) left (next_up c.if-k-p.true)

pub loop-left-preserved : goal.loop-left-preserved
loop-left-preserved c =
    let g = c.loop-left.invariant in
    let few : c.loop-left.left ≤ c.runs_before-p.result = g.few in
    let left : RunsLeft c.loop-left.y c.settle-z.result c.runs_before-p.result c.loop-left.left c.if-y-z.left =
    elim c.if-y-z.branch [
      | then-y-z w ↦ rises (omega arith) few w.if-y-z.true w.left-is
      | else-y-z w ↦ stays (omega arith) w.if-y-z.false w.left-is
    ] in
    let fits : c.args.c ≤ c.args.s.columns = omega (arith, c.requires) in
    going_next c.args.s.framed fits c.runs_before-p.ensures (run_left g (omega arith)) g
    (settled_whole c.args.s.first.now _ _ _ _ (omega (arith, c.runs_before-p.ensures.inside c.loop-left.k (run_left g (omega arith)), c.requires, c.args.s.framed.table.flat.firsts)) c.settle-z.ensures) (omega arith) (omega arith) left (next_round c.if-k-p.false)

pub returns : goal.returns
returns c = least_all (omega (arith, c.requires)) c.runs_before-p.ensures (going_end c.loop-left.invariant (omega arith) (omega arith))
