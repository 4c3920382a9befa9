-- What is granted has at most 64 vertices. Assumes nothing.
use native.Mathlib.Omega.{arith}
use Rattle.pathlaws.proofs.Granted.{read_granted}
use Rattle.pathfile.proofs.read_words.Goals as goal

pub returns-in-Ok : goal.returns-in-Ok
returns-in-Ok c =
    let granted = read_granted (rw c.in-Ok.is at c.read_path.ensures) in
    omega (arith, granted.vertices, granted.most)
