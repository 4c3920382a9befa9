-- Word and numbers, and the end of the line. Assumes nothing.
use Rattle.layoutlines.proofs.Line.{line_put}
use Rattle.layoutlines.proofs.put_line.Goals as goal

pub returns : goal.returns
returns c = line_put c.args.word.now c.args.numbers.now c.put_words-end.ensures.bytes
