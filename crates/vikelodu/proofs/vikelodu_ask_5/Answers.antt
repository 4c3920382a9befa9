-- The answer of the call, packed. Assumes nothing.
use Rattle.packing.proofs.Bits.{as_asking}
use Rattle.vikelodu.proofs.vikelodu_ask_5.Goals as goal

pub returns : goal.returns
returns c = record { answer = _; step = c.ask-a.ensures; packs = as_asking c.ask-a.result.placing c.pack_answer.ensures }
