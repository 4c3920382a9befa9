-- Three numbers of the front. Assumes nothing.
use Rattle.reads.proofs.Outputs.{figures_are}
use Rattle.reads.proofs.figures_of.Goals as goal

pub returns : goal.returns
returns c = figures_are c.args.sheet.now c.number.ensures c.number-2.ensures c.number-3.ensures
