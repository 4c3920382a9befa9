-- The walk begins at the first piece. Assumes nothing.
use mathlib.Core.Path.{refl}
use Rattle.cutlist.proofs.Chained.{starts, all}
use Rattle.cutlist.proofs.chain.PieceRecords.of.Goals as goal

pub invariant_of-result : goal.invariant_of-result
invariant_of-result c = record { ends = starts c.requires c.number-at.ensures }

pub returns : goal.returns
returns c = record { along = record { sheet = refl; vertices = refl }; all = all _ c.number-at.ensures }
