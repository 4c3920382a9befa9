-- The answer of the call, packed. Assumes nothing.
use Rattle.packing.proofs.Bits.{as_committing}
use Rattle.vikelodu.proofs.vikelodu_commit.Goals as goal

pub returns : goal.returns
returns c = record { answer = _; step = c.commit-a.ensures; packs = as_committing c.commit-a.result c.pack_answer.ensures }
