-- The answer of the call, packed. Assumes nothing.
use Rattle.packing.proofs.Bits.{as_writing}
use Rattle.vikelodu.proofs.vikelodu_write_path.Goals as goal

pub returns : goal.returns
returns c = record { answer = _; step = c.write_path-a.ensures; packs = as_writing c.write_path-a.result c.pack_answer.ensures }
