-- `put_runs` counts and stores the runs of all columns: each turn of the loop takes the runs of one column from what is left, and a
-- column that begins at the extent and the gap after it, or later, is past the last one.
-- Assumes nothing.
use native.Mathlib.Omega.{arith}
use Rattle.outline.proofs.Limit.{extent_limit}
use Rattle.cells.proofs.Columns.{column_number, column_put, at_work, all_put}
use Rattle.cells.proofs.put_runs.Goals as goal

pub overflow_add-reach : goal.overflow_add-reach
overflow_add-reach c = let o = c.args.o in let p = c.requires in omega (arith, extent_limit o.lent _ o.framed.turn, p.wide, p.limits.1)

pub gap_column-c-requires-clause-room : goal.gap_column-c-requires-clause-room
gap_column-c-requires-clause-room c =
    let o = c.args.o in
    let p = c.requires in
    record {
      least = p.limits.0.least;
      most = p.limits.0.most;
      gap = p.limits.1;
      wide = omega (arith, extent_limit o.lent _ o.framed.turn, p.wide);
      before = c.loop-start-test.true;
    }

pub overflow_add-start : goal.overflow_add-start
overflow_add-start c =
    let o = c.args.o in
    let p = c.requires in
    omega (arith, c.loop-start-test.true, extent_limit o.lent _ o.framed.turn, p.wide, p.limits.1, p.limits.0.most)

pub overflow_add-i : goal.overflow_add-i
overflow_add-i c =
    let o = c.args.o in
    let p = c.requires in
    omega (arith, c.loop-start-test.true, extent_limit o.lent _ o.framed.turn, p.wide, p.limits.1, column_number c.loop-start.invariant.put p.limits.0.least)

pub loop-start-preserved : goal.loop-start-preserved
loop-start-preserved c =
    let o = c.args.o in
    let p = c.requires in
    let i = c.loop-start.invariant in
    let b = i.working.buffers in
    let column = c.gap_column-c.ensures in
    record {
      put = column_put o.lent o.framed.turn p.ordered p.wide p.limits.0.least i.put c.loop-start-test.true column c.put_if_fits-k.ensures;
      working = at_work (omega (arith, b.left)) (omega (arith, b.right)) (omega (arith, b.wide))
          (omega (arith, i.working.part_left)) (omega (arith, i.working.part_right)) (omega (arith, i.long)) (omega (arith, i.high_long))
          column.kept column.next;
      long = omega (arith, i.long);
      high_long = omega (arith, i.high_long);
    }

pub returns : goal.returns
returns c = all_put c.requires.wide c.loop-start.invariant.put c.requires.limits.0.least (omega arith)
