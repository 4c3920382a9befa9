-- The part that is lent has as many words as are told, or as many as there are. Assumes nothing.
use mathlib.Core.Path.{sym, ◌∙◌}
use native.Mathlib.Omega.{arith}
use Rattle.byteput.proofs.Parts.{lesser_most, part_is}
use Rattle.byteput.proofs.Calls.{put_some}
use Rattle.byteput.proofs.put_in.Goals as goal

pub whole_as_front-put_with : goal.whole_as_front-put_with
whole_as_front-put_with g c = (lesser_most _ _ c.min-n.ensures, omega (arith, c.requires.fact_3))

pub returns : goal.returns
returns g c = put_some (part_is _ _ c.min-n.ensures ∙ c.requires.fact_2) c.put_with.ensures
