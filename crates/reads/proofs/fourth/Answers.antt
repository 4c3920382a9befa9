-- 4, where a strip is lent. Assumes nothing.
use mathlib.Core.Path.{sym, ◌∙◌}
use Rattle.reads.proofs.fourth.Goals as goal

pub returns-in-Lent : goal.returns-in-Lent
returns-in-Lent c = c.length_fits.ensures ∙ sym (rw c.in-Lent.is)
