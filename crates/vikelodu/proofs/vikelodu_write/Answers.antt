-- The answer of the call, packed. Assumes nothing.
use Rattle.packing.proofs.Bits.{as_writing}
use Rattle.vikelodu.proofs.vikelodu_write.Goals as goal

pub returns : goal.returns
returns c = record { answer = _; step = c.write-a.ensures; packs = as_writing c.write-a.result c.pack_answer.ensures }
