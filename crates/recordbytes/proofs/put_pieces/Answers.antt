-- The records still to write, stored where they go, give the whole. Assumes nothing.
use mathlib.Core.Path.{refl}
use native.Mathlib.Omega.{arith}
use Rattle.recordbytes.proofs.Tails.{pieces_start, pieces_whole, pieces_sum, pieces_next, pieces_at, pieces_end}
use Rattle.recordbytes.proofs.put_pieces.Goals as goal

pub loop-i-init : goal.loop-i-init
loop-i-init c = pieces_at (omega arith) (omega arith) (omega arith) (pieces_start c.requires.fact_1 c.requires.fact_2)

pub offset_bounds-list-a : goal.offset_bounds-list-a
offset_bounds-list-a c = omega (arith, pieces_whole c.loop-i.invariant (omega arith) _ refl)

pub bounds-list-a : goal.bounds-list-a
bounds-list-a c = omega (arith, pieces_whole c.loop-i.invariant (omega arith) _ refl)

pub overflow_cast-m : goal.overflow_cast-m
overflow_cast-m c = omega (arith, c.type_inv.list c.loop-i.a)

pub overflow_cast-v : goal.overflow_cast-v
overflow_cast-v c = omega (arith, c.loop-i.invariant.small)

pub overflow_add-a : goal.overflow_add-a
overflow_add-a c = omega (arith, pieces_whole c.loop-i.invariant (omega arith) _ refl)

pub offset_bounds-list-a-in-loop-i : goal.offset_bounds-list-a-in-loop-i
offset_bounds-list-a-in-loop-i c = omega (arith, pieces_whole c.loop-i.invariant (omega arith) _ refl)

pub bounds-list-a-in-loop-i : goal.bounds-list-a-in-loop-i
bounds-list-a-in-loop-i c = omega (arith, pieces_whole c.loop-i.invariant (omega arith) _ refl)

pub overflow_mul-a : goal.overflow_mul-a
overflow_mul-a c = omega (arith, pieces_whole c.loop-i.invariant (omega arith) _ refl)

pub overflow_add-a-in-loop-i : goal.overflow_add-a-in-loop-i
overflow_add-a-in-loop-i c = omega (arith, pieces_whole c.loop-i.invariant (omega arith) _ refl)

pub overflow_add-a-in-loop-i-2 : goal.overflow_add-a-in-loop-i-2
overflow_add-a-in-loop-i-2 c = omega (arith, pieces_whole c.loop-i.invariant (omega arith) _ refl)

pub overflow_add-v : goal.overflow_add-v
overflow_add-v c = omega (arith, c.loop-i.invariant.small, pieces_sum c.loop-i.invariant (omega arith) _ refl)

pub loop-i-preserved : goal.loop-i-preserved
loop-i-preserved c =
    pieces_at (omega arith) (omega arith) (omega arith)
    (pieces_next c.loop-i.invariant (omega arith) _ refl c.link.ensures c.set_record.ensures)

pub shape_of-out : goal.shape_of-out
shape_of-out c = c.loop-i.invariant.long

pub returns : goal.returns
returns c = pieces_end c.loop-i.invariant (omega arith)
