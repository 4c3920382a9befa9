-- The call that reads a path: its shape, and then what follows. Assumes nothing.
use mathlib.Core.Path.{refl}
use Rattle.readpath.proofs.Outputs.{other_shape}
use Rattle.readpath.proofs.read_path.Goals as goal

pub read_shaped-requires : goal.read_shaped-requires
read_shaped-requires c = rw c.in-Some.is at c.shape_of.ensures

pub returns-in_default : goal.returns-in_default
returns-in_default c = other_shape (rw c.in_default.is at c.shape_of.ensures) c.refused.ensures refl
