-- 21, where a strip is lent. Assumes nothing.
use mathlib.Core.Path.{sym, ◌∙◌}
use Rattle.reads.proofs.gap_asked.Goals as goal

pub returns-in-Some : goal.returns-in-Some
returns-in-Some c = c.gap_fits.ensures ∙ sym (rw c.in-Some.is)
