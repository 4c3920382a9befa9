-- Place on the table, or commit. Assumes nothing.
use Rattle.wanted.proofs.Answered.{best, at}
use Rattle.wanted.proofs.on_table.Goals as goal

pub returns-in-Best : goal.returns-in-Best
returns-in-Best c = best c.in-Best.is c.place_on.ensures

pub returns-in-At : goal.returns-in-At
returns-in-At c = at c.in-At.is c.commit_on.ensures
