-- By the step. Assumes nothing.
use mathlib.Core.Path.{sym, ap, ◌∙◌}
use Rattle.pathsteps.specs.Found.{vertex_in}
use Rattle.pathsteps.proofs.vertex_of.Goals as goal

pub returns-in-Move : goal.returns-in-Move
returns-in-Move c = c.converted.ensures ∙ sym (ap vertex_in c.in-Move.is)

pub returns-in-Line : goal.returns-in-Line
returns-in-Line c = c.converted-in-Line.ensures ∙ sym (ap vertex_in c.in-Line.is)
