-- Both coordinates are eighths exactly, so their bits are those that are written. Assumes nothing.
use Rattle.stepbytes.proofs.Puts.{line_drawn}
use borrow.Author.Rules.{rules}
use Rattle.stepbytes.proofs.line_to.Goals as goal

pub returns : goal.returns
returns c = line_drawn _ _ (search rules) (search rules) c.millimetres-u.ensures c.millimetres-v.ensures
