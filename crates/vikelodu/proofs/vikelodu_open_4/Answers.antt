-- The answer of the call, packed. Assumes nothing.
use Rattle.vikelodu.proofs.vikelodu_open_4.Goals as goal

pub returns : goal.returns
returns c = record { answer = _; step = c.open-a.ensures; packs = c.pack_answer.ensures }
