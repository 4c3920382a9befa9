-- The answer of the call, packed. Assumes nothing.
use Rattle.packing.proofs.Bits.{as_path_reading}
use Rattle.vikelodu.proofs.vikelodu_read_path.Goals as goal

pub returns : goal.returns
returns c = record { answer = _; step = c.read_path-a.ensures; packs = as_path_reading c.read_path-a.result c.pack_answer.ensures }
