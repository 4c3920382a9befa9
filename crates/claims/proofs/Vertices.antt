-- S-6: what is read is the turned outline, vertex by vertex. Assumes nothing.
use Rattle.laws.proofs.Vertices.{read_x_lem, read_y_lem}
use Rattle.geom.proofs.Extent.{sides_turned}
use Rattle.claims.specs.Vertices.{Vertices_read}

pub vertices_read : Vertices_read
vertices_read = record { x_read = λ o t i m s. read_x_lem o i s t m; y_read = λ o t i m s. read_y_lem o i s t m; as_many = sides_turned }
