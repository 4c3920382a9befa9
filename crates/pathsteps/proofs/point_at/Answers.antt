-- Two coordinates, by their bits. Assumes nothing.
use mathlib.Core.Path.{ap, ◌∙◌}
use lib.Ieee.{binary32, of_bits}
use Rattle.pathsteps.proofs.Cases.{same_point}
use Rattle.pathsteps.proofs.point_at.Goals as goal

pub returns : goal.returns
returns c = same_point (c.float_of-x.ensures ∙ ap (of_bits binary32) c.bits.ensures) (c.float_of-y.ensures ∙ ap (of_bits binary32) c.bits-2.ensures)
