-- The answer of lay, on a strip that serves. Assumes nothing.
use borrow.Author.Rules.{rules}
use Rattle.text.proofs.Answers.{answered}
use Rattle.text.proofs.lay_lent.Goals as goal

pub put_answer-requires : goal.put_answer-requires
put_answer-requires c = record {
  answered = answered c.lay-a.ensures c.requires.serves c.requires.entries c.requires.work;
  room = search rules;
}
