-- `column` meets its contract: the runs hold the rows covered from `from` to `to`, and the slab looked at last is kept.
-- The loop's invariant is the same for the columns from `from` to a: a part of a neat slab is neat, so its rows are those of its unit
-- columns. Assumes nothing.
use native.Mathlib.Omega.{arith}
use Rattle.column.proofs.Parts.{part_neat}
use Rattle.column.proofs.Units.{row_limit, units_none, units_more, units_end, room_units}
use Rattle.column.proofs.Columns.{column_of_lem, working_on, held_fit}
use borrow.Author.Rules.{rules}
use Rattle.column.proofs.column.Goals as goal

pub loop-a-init : goal.loop-a-init
loop-a-init c = record { from = search rules; to = search rules; working = c.requires.working; long = search rules; high_long = search rules; adds = units_none _ _ _ _ }

pub portion-n-requires-clause-fact_1 : goal.portion-n-requires-clause-fact_1
portion-n-requires-clause-fact_1 c =
    let b = c.loop-a.invariant.working.buffers in
    held_fit _ _ c.args.o.lent c.held-k.ensures (omega (arith, b.left)) (omega (arith, b.right)) (omega (arith, b.wide))

pub portion-n-requires-clause-fact_4 : goal.portion-n-requires-clause-fact_4
portion-n-requires-clause-fact_4 c =
    let p = c.requires in
    let i = c.loop-a.invariant in
    room_units p.working.buffers i.adds (row_limit c.args.o.lent _ c.args.o.framed.turn p.ordered _ _) i.long i.high_long

pub loop-a-preserved : goal.loop-a-preserved
loop-a-preserved c =
    let p = c.requires in
    let i = c.loop-a.invariant in
    let k = c.held-k.ensures in
    record {
      from = omega (arith, c.min-e.ensures, k.to, c.loop-a-test.true, i.from);
      to = omega (arith, c.min-e.ensures);
      working = working_on i.working k (omega arith) (omega arith) (omega arith) (omega arith) (omega arith) (omega arith) (omega arith);
      long = omega (arith, i.long);
      high_long = omega (arith, i.high_long);
      adds = units_more c.args.o.lent _ c.args.o.framed.turn p.ordered _ i.from
          (part_neat k.kept.neat k.from (omega (arith, c.min-e.ensures, k.to, c.loop-a-test.true)) (omega (arith, c.min-e.ensures)))
          i.adds (c.portion-n.ensures.rows _ k.kept);
    }

pub returns : goal.returns
returns c =
    let p = c.requires in
    let i = c.loop-a.invariant in
    column_of_lem p.working.buffers
    (units_end c.args.o.lent _ c.args.o.framed.turn p.ordered _ _ _ i.adds (omega arith))
    (row_limit c.args.o.lent _ c.args.o.framed.turn p.ordered _ _)
    i.long i.high_long i.working.kept i.working.next
