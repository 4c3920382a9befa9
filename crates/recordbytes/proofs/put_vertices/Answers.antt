-- The outlines still to write, stored where they go, give the whole. Assumes nothing.
use mathlib.Core.Path.{refl}
use native.Mathlib.Omega.{arith}
use Rattle.recordbytes.proofs.Tails.{vertices_start, vertices_whole, vertices_fit, vertices_next, vertices_at, vertices_end}
use Rattle.recordbytes.proofs.put_vertices.Goals as goal

pub loop-i-init : goal.loop-i-init
loop-i-init c = vertices_at (omega arith) (vertices_start c.requires)

pub offset_bounds-list-a : goal.offset_bounds-list-a
offset_bounds-list-a c = omega (arith, vertices_whole c.loop-i.invariant (omega arith) _ refl)

pub bounds-list-a : goal.bounds-list-a
bounds-list-a c = omega (arith, vertices_whole c.loop-i.invariant (omega arith) _ refl)

pub overflow_cast-m : goal.overflow_cast-m
overflow_cast-m c = omega (arith, c.type_inv.list c.loop-i.a)

pub overflow_add-a : goal.overflow_add-a
overflow_add-a c = omega (arith, vertices_whole c.loop-i.invariant (omega arith) _ refl)

pub put_outline-requires : goal.put_outline-requires
put_outline-requires c = vertices_fit c.loop-i.invariant (omega arith) _ refl

pub overflow_mul-a : goal.overflow_mul-a
overflow_mul-a c = omega (arith, vertices_whole c.loop-i.invariant (omega arith) _ refl)

pub overflow_add-a-in-loop-i : goal.overflow_add-a-in-loop-i
overflow_add-a-in-loop-i c = omega (arith, vertices_whole c.loop-i.invariant (omega arith) _ refl)

pub overflow_add-a-in-loop-i-2 : goal.overflow_add-a-in-loop-i-2
overflow_add-a-in-loop-i-2 c = omega (arith, vertices_whole c.loop-i.invariant (omega arith) _ refl)

pub overflow_add-v : goal.overflow_add-v
overflow_add-v c = let f = vertices_fit c.loop-i.invariant (omega arith) _ refl in omega (arith, f.small)

pub overflow_mul-t : goal.overflow_mul-t
overflow_mul-t c = let f = vertices_fit c.loop-i.invariant (omega arith) _ refl in omega (arith, f.small)

pub overflow_add-t : goal.overflow_add-t
overflow_add-t c = let f = vertices_fit c.loop-i.invariant (omega arith) _ refl in omega (arith, f.in_out, c.loop-i.invariant.long)

pub loop-i-preserved : goal.loop-i-preserved
loop-i-preserved c = vertices_at (omega arith) (vertices_next c.loop-i.invariant (omega arith) _ refl c.put_outline.ensures)

pub shape_of-out : goal.shape_of-out
shape_of-out c = c.loop-i.invariant.long

pub returns : goal.returns
returns c = vertices_end c.loop-i.invariant (omega arith)
