-- `walk_column` meets its contract: no height below the one that is tried is free, the runs before the one that is tried stay free up to
-- `stay`, and the tries counted with what is left of the walk give the whole walk. Each step goes on by a run or up by a jump, so the tries
-- come to an end. Runs past the last column count for nothing.
-- Assumes nothing.
use native.Mathlib.Omega.{arith}
use Prim.Native.Nat.{◌*◌}
use Rattle.walk.proofs.Jumps.{going_start, going_clear, going_jump, going_stop, going_end, falls, run_column_lem, least_all, none_all}
use Rattle.walk.proofs.Counts.{count_start, count_end, count_stop, count_jump, steps_all}
use Rattle.tries.proofs.Parts.{column_part, clear_whole, lands_whole}
use Rattle.walk.proofs.walk_column.Goals as goal

pub loop-k-init : goal.loop-k-init
loop-k-init c = (going_start _ _ _ _ _ _ _ _, count_start _ _ _ _ _ _ _ _)

pub try_run-requires : goal.try_run-requires
try_run-requires c = let fr = c.args.s.framed in let k = c.loop-k.k in let g = c.loop-k.invariant.0 in let b = c.runs_before-p.ensures in record {
  column = column_part c.args.s.first.now _ _ _ _ (omega (arith, c.runs_before-p.ensures.inside c.loop-k.k (omega arith), c.requires, c.args.s.framed.table.flat.firsts)) (run_column_lem fr _ (omega (arith, c.requires)) b (omega arith));
  run = (fr.some k (omega (arith, b.few)), omega (arith, fr.tall k (omega (arith, b.few)), c.args.s.low, g.low, g.high, c.requires), g.low);
}

pub loop-k-preserved-in-Clear : goal.loop-k-preserved-in-Clear
loop-k-preserved-in-Clear c = let inv = c.loop-k.invariant in (going_clear inv.0 (omega arith) (clear_whole c.args.s.first.now _ _ _ _ (omega (arith, c.runs_before-p.ensures.inside c.loop-k.k (omega arith), c.requires, c.args.s.framed.table.flat.firsts)) (rw c.in-Clear.is at c.try_run.ensures)), inv.1)

pub returns-then-top-z : goal.returns-then-top-z
returns-then-top-z c = let fr = c.args.s.framed in let b = c.runs_before-p.ensures in let inv = c.loop-k.invariant in let lands = lands_whole c.args.s.first.now _ _ _ _ (omega (arith, c.runs_before-p.ensures.inside c.loop-k.k (omega arith), c.requires, c.args.s.framed.table.flat.firsts)) (rw c.in-Jump.is at c.try_run.ensures) in record { height = none_all (omega (arith, c.requires)) b (going_stop fr (omega (arith, c.requires)) b (omega arith) inv.0 lands (omega arith) (omega arith)); steps = steps_all (omega (arith, c.requires)) b (count_stop inv.0 inv.1 (omega arith) (omega (arith, b.inside c.loop-k.k (omega arith), c.requires)) lands (omega arith) (omega arith)); few = omega (arith, inv.1.few, inv.0.low, inv.0.high) }

pub go_on-n-requires : goal.go_on-n-requires
go_on-n-requires c = omega (arith, c.loop-k.invariant.0.high)

pub loop-k-smaller : goal.loop-k-smaller
loop-k-smaller c = let fr = c.args.s.framed in falls fr (omega (arith, c.requires)) c.runs_before-p.ensures (omega arith) c.loop-k.invariant.0 (lands_whole c.args.s.first.now _ _ _ _ (omega (arith, c.runs_before-p.ensures.inside c.loop-k.k (omega arith), c.requires, c.args.s.framed.table.flat.firsts)) (rw c.in-Jump.is at c.try_run.ensures)) c.go_on-n.ensures

pub loop-k-preserved : goal.loop-k-preserved
loop-k-preserved c = let fr = c.args.s.framed in let b = c.runs_before-p.ensures in let inv = c.loop-k.invariant in let lands = lands_whole c.args.s.first.now _ _ _ _ (omega (arith, c.runs_before-p.ensures.inside c.loop-k.k (omega arith), c.requires, c.args.s.framed.table.flat.firsts)) (rw c.in-Jump.is at c.try_run.ensures) in (going_jump fr (omega (arith, c.requires)) b (omega arith) inv.0 lands c.go_on-n.ensures, count_jump inv.0 inv.1 (omega arith) (omega (arith, b.inside c.loop-k.k (omega arith), c.requires)) lands)

pub returns : goal.returns
returns c = let fr = c.args.s.framed in let b = c.runs_before-p.ensures in let inv = c.loop-k.invariant in record { height = least_all (omega (arith, c.requires)) b (going_end inv.0 (omega arith) (omega arith)); steps = steps_all (omega (arith, c.requires)) b (count_end inv.0 inv.1 (omega arith) (omega arith)); few = omega (arith, inv.1.few, inv.0.low, inv.0.high) }
