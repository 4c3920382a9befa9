-- One line. Assumes nothing.
use Rattle.defs.specs.Computing.Ascii.{ascii}
use Rattle.defs.specs.Computing.Text.{line}
use Rattle.layoutlines.proofs.put_refused.Goals as goal

pub returns : goal.returns
unfolding ascii line
returns c = c.put_line.ensures
