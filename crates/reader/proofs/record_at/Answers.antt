-- Three numbers one after another. Assumes nothing.
use Rattle.reader.proofs.Told.{told}
use Rattle.reader.proofs.record_at.Goals as goal

pub returns : goal.returns
returns c = told c.args.sheet.now c.args.at c.number.ensures c.number-2.ensures c.number-3.ensures
