-- `cover::put_if_fits` counts a column's runs, and stores their words where the words of all runs so far fit.
-- Assumes nothing.
use Rattle.cells.proofs.Words.{put_none, put_all}
use Rattle.cells.proofs.put_if_fits.Goals as goal

pub returns-then-out-e : goal.returns-then-out-e
returns-then-out-e c =
    let a = c.args in
    put_none a.lows.now a.highs.now _ _ _ _ c.if-out-e.true

pub returns : goal.returns
returns c =
    let a = c.args in
    put_all a.lows.now a.highs.now _ _ _ _ c.put_column.ensures
