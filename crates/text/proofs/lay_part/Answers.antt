-- The part that is lent has the words that it is to have. Assumes nothing.
use borrow.Author.Rules.{rules}
use Rattle.text.proofs.Answers.{part_serves}
use Rattle.text.proofs.lay_part.Goals as goal

pub lay_strip-requires : goal.lay_strip-requires
lay_strip-requires c = record {
  serves = part_serves c.args.strip.now c.strip_words-n.ensures c.requires.whole;
  room = search rules;
}
