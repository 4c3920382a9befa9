-- The masks are compared, then the vertices. Assumes nothing.
use native.Mathlib.Omega.{arith}
use Rattle.reader.proofs.Told.{first_read, second_read}
use Rattle.copies.proofs.Alike.{copy_of}
use Rattle.copies.proofs.start_of.Goals as goal

pub returns-then-same_vertices : goal.returns-then-same_vertices
returns-then-same_vertices c =
    record {
      most = omega arith;
      copy =
          λ some.
          copy_of _ _ _ c.requires.fact_1.vertices (first_read c.start.ensures c.present-p.ensures)
          (first_read c.start-2.ensures c.present-q.ensures) (second_read c.start.ensures c.present-p.ensures)
          (second_read c.start-2.ensures c.present-q.ensures) c.if-p-q.true c.same_vertices.ensures c.if-same_vertices.true;
    }
