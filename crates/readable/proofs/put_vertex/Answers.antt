-- The parts of a vertex, one after another, and their room. Assumes nothing.
use native.Mathlib.Omega.{arith}
use lib.ListN.{length-set}
use Rattle.print.proofs.Puts.{decimal_few}
use Rattle.readable.proofs.VertexText.{vertex_put, vertex_few, after_x}
use Rattle.readable.proofs.put_vertex.Goals as goal

pub bounds-out-a : goal.bounds-out-a
bounds-out-a c =
    let room =
    after_x c.args.out.now c.args.at
    c.args.x c.requires c.put_decimal-a.ensures in
    omega (arith, room)

pub overflow_add-a : goal.overflow_add-a
overflow_add-a c =
    omega (arith, c.put_decimal-a.ensures.after, decimal_few c.args.x, c.requires)

pub put_decimal-requires : goal.put_decimal-requires
put_decimal-requires c =
    let room =
    after_x c.args.out.now c.args.at
    c.args.x c.requires c.put_decimal-a.ensures in
    simp length-set (omega (arith, room))

pub returns : goal.returns
returns c = let put =
    vertex_put c.args.out.now
    c.put_decimal-a.ensures c.put_decimal.ensures in
    record {
      text = put;
      room = omega (arith, put.after, vertex_few c.args.x c.args.y);
    }
