-- Four words for each case of a fate. Assumes nothing.
use Rattle.fates.proofs.put_entry.Goals as goal

pub returns-in-Placed : goal.returns-in-Placed
returns-in-Placed c = rw c.in-Placed.is c.put_four.ensures

pub returns-in-Refused : goal.returns-in-Refused
returns-in-Refused c = rw c.in-Refused.is c.put_four-in-Refused.ensures
