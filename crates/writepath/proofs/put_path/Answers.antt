-- The move, and then the lines. Assumes nothing.
use native.Mathlib.Omega.{arith}
use Rattle.writepath.proofs.Lines.{drawn_room, path_put}
use Rattle.writepath.proofs.put_path.Goals as goal

pub put_step-requires : goal.put_step-requires
put_step-requires c = record {
  fact_1 = drawn_room _ _ c.move_to-s.ensures (omega (arith, c.requires.room, c.requires.least));
  fact_2 = c.move_to-s.ensures.numbers;
}

pub returns : goal.returns
returns c = path_put c.args.outline.now c.args.out.now c.requires c.move_to-s.ensures c.put_step.ensures c.put_lines.ensures
