-- The answer and what it leaves, and then the work buffer cleared. Assumes nothing.
use Rattle.laying.proofs.Tops.{lay_step}
use borrow.Author.Rules.{rules}
use Rattle.laying.proofs.lay.Goals as goal

pub returns : goal.returns
returns c = lay_step c.lay_sheet-a.new.work c.lay_sheet-a.ensures (search rules) c.clear.ensures
