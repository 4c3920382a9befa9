-- `rise_alike` meets its contract: products of heights and widths. Assumes nothing.
use Rattle.retrace.proofs.Along.{alike_is}
use Rattle.retrace.proofs.rise_alike.Goals as goal

pub returns : goal.returns
returns c = alike_is _ _ c.from-v.ensures c.from-w.ensures c.from-a.ensures c.from-b.ensures c.from-c.ensures c.from-d.ensures
