-- Four stores, one after another. Assumes nothing.
use Rattle.words.proofs.Storing.{four_stored}
use Rattle.freerecords.proofs.put_four.Goals as goal

pub returns : goal.returns
returns c = let a = c.args in four_stored a.strip.now a.at a.a a.b a.c a.d
