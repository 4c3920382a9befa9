-- The lines still to store, where they go, give the whole. Assumes nothing.
use Rattle.writepath.proofs.Lines.{lining_start, line_room, drawn_room, lining_next, lining_end}
use Rattle.writepath.proofs.put_lines.Goals as goal

pub loop-i-init : goal.loop-i-init
loop-i-init c = lining_start _ _ c.requires

pub put_step-requires : goal.put_step-requires
put_step-requires c = record {
  fact_1 = drawn_room _ _ c.line_to-s.ensures (line_room c.requires c.loop-i.invariant c.loop-i-test.true);
  fact_2 = c.line_to-s.ensures.numbers;
}

pub loop-i-preserved : goal.loop-i-preserved
loop-i-preserved c = lining_next c.requires c.loop-i.invariant c.loop-i-test.true c.line_to-s.ensures c.put_step.ensures

pub returns : goal.returns
returns c = lining_end c.requires c.loop-i.invariant c.loop-i-test.false c.put_step-2.ensures
