-- By the step: its byte, and its coordinates after it. Assumes nothing.
use Prim.Native.Nat.{◌+◌}
use Rattle.stepbytes.specs.Draws.{point_bytes}
use mathlib.Core.List.{[]}
use mathlib.Core.Path.{refl}
use native.Mathlib.Omega.{arith}
use lib.ListN.{length}
use lib.Seq.{lt-length-set}
use Rattle.stepbytes.proofs.Puts.{room_of, numbers_of, put_is, step_long}
use Rattle.stepbytes.proofs.put_step.Goals as goal

pub bounds-out-at : goal.bounds-out-at
bounds-out-at c = omega (arith, room_of c.in-Move.is c.args.at (length c.args.out.now) c.requires.fact_1)

pub put_point-requires : goal.put_point-requires
put_point-requires c = record {
  fact_1 = lt-length-set c.args.out.now _ _ (omega (arith, room_of c.in-Move.is c.args.at (length c.args.out.now) c.requires.fact_1));
  fact_2 = (numbers_of c.in-Move.is c.requires.fact_2).0;
  fact_3 = (numbers_of c.in-Move.is c.requires.fact_2).1;
}

pub bounds-out-at-in-Line : goal.bounds-out-at-in-Line
bounds-out-at-in-Line c = omega (arith, room_of c.in-Line.is c.args.at (length c.args.out.now) c.requires.fact_1)

pub put_point-requires-in-Line : goal.put_point-requires-in-Line
put_point-requires-in-Line c = record {
  fact_1 = lt-length-set c.args.out.now _ _ (omega (arith, room_of c.in-Line.is c.args.at (length c.args.out.now) c.requires.fact_1));
  fact_2 = (numbers_of c.in-Line.is c.requires.fact_2).0;
  fact_3 = (numbers_of c.in-Line.is c.requires.fact_2).1;
}

pub bounds-out-at-in-Close : goal.bounds-out-at-in-Close
bounds-out-at-in-Close c = omega (arith, room_of c.in-Close.is c.args.at (length c.args.out.now) c.requires.fact_1)

pub shape_of-out-in-Move : goal.shape_of-out-in-Move
shape_of-out-in-Move c = step_long c.args.out.now c.args.at 1 (c.args.at + 1) (point_bytes c.in-Move.x c.in-Move.y) c.put_point.ensures

pub returns-in-Move : goal.returns-in-Move
returns-in-Move c = put_is c.in-Move.is c.args.out.now c.args.at 1 (point_bytes c.in-Move.x c.in-Move.y) refl c.put_point.ensures

pub shape_of-out-in-Line : goal.shape_of-out-in-Line
shape_of-out-in-Line c = step_long c.args.out.now c.args.at 2 (c.args.at + 1) (point_bytes c.in-Line.x c.in-Line.y) c.put_point-in-Line.ensures

pub returns-in-Line : goal.returns-in-Line
returns-in-Line c = put_is c.in-Line.is c.args.out.now c.args.at 2 (point_bytes c.in-Line.x c.in-Line.y) refl c.put_point-in-Line.ensures

pub returns-in-Close : goal.returns-in-Close
returns-in-Close c = put_is c.in-Close.is c.args.out.now c.args.at 3 [] refl refl
