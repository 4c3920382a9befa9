-- The answer of place. Assumes nothing.
use Rattle.ask.proofs.Strip.{place_answer_lem}
use Rattle.ask.proofs.look.Goals as goal

pub returns : goal.returns
returns c = record {
  fact_1 = (place_answer_lem c.look.ensures).0;
  fact_2 = (place_answer_lem c.look.ensures).1;
}
