-- Question 5 comes with the table. Assumes nothing.
use Rattle.wanted.proofs.Answered.{not_formed}
use Rattle.wanted.proofs.look.Goals as goal

pub look_decoded-requires : goal.look_decoded-requires
look_decoded-requires c = record {
  holds = rw c.in-Some.is at c.decode.ensures;
  room = c.requires;
}

pub returns-in-None : goal.returns-in-None
returns-in-None c = not_formed _ (rw c.in-None.is at c.decode.ensures) c.untried.ensures
