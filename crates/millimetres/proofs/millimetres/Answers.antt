-- k is a float exactly, and so is its eighth. Assumes nothing.
use Rattle.std.proofs.Common.{rules}
use Rattle.millimetres.proofs.Eighth.{eighth}
use Rattle.millimetres.proofs.millimetres.Goals as goal

pub returns : goal.returns
returns c = eighth c.args.k (search rules)
