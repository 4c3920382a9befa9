-- The answer of the call, packed. Assumes nothing.
use Rattle.vikelodu.proofs.vikelodu_cover_4.Goals as goal

pub returns : goal.returns
returns c = record { answer = _; step = c.cover-a.ensures; packs = c.pack_answer.ensures }
