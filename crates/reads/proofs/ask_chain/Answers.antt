-- 6 by the walk along the chain. Assumes nothing.
use Rattle.reads.proofs.Outputs.{in_sheet, no_6}
use Rattle.reads.proofs.ask_chain.Goals as goal

pub piece_chain-requires : goal.piece_chain-requires
piece_chain-requires c = in_sheet c.requires

pub ask_pieces-requires : goal.ask_pieces-requires
ask_pieces-requires c = let g = rw c.in-Some.is at c.piece_chain.ensures in record { begun = c.requires; six = g.passes; long = g.long }

pub returns-in-None : goal.returns-in-None
returns-in-None c = rw c.refused.ensures (no_6 c.requires (rw c.in-None.is at c.piece_chain.ensures))
