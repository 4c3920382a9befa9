-- `has_run` meets its contract: the column from 0 to the extent's width has a run exactly when the turn has a cell.
-- Assumes nothing.
use mathlib.Core.Path.{refl}
use Rattle.inside.proofs.OneColumn.{new_work, one_column}
use Rattle.inside.proofs.has_run.Goals as goal

pub column-c-requires-clause-working : goal.column-c-requires-clause-working
column-c-requires-clause-working c = new_work _ c.none.ensures.1 c.none.ensures.3 refl refl refl refl refl refl refl

pub returns : goal.returns
returns c = let p = c.requires in one_column _ _ c.args.o.lent p.ordered p.wide c.column-c.ensures
