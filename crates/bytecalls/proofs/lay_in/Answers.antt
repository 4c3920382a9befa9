-- The part that is lent has as many words as are told, or as many as there are. Assumes nothing.
use mathlib.Core.Path.{◌∙◌}
use native.Mathlib.Omega.{arith}
use Rattle.byteput.proofs.Parts.{lesser_most, part_is}
use Rattle.bytecalls.proofs.Laid.{lay_some}
use Rattle.bytecalls.proofs.lay_in.Goals as goal

pub whole_as_front-lay_with : goal.whole_as_front-lay_with
whole_as_front-lay_with g c = (lesser_most _ _ c.min-n.ensures, omega (arith, c.requires.fact_2))

pub returns : goal.returns
returns g c = lay_some (part_is _ _ c.min-n.ensures ∙ c.requires.fact_1) c.lay_with.ensures
