-- Question 6: the chain of the records after the vertex records. Assumes nothing.
use Rattle.records.proofs.Copies.{piece_chains}
use Rattle.records.proofs.piece_chain.Goals as goal

pub returns : goal.returns
returns c = piece_chains c.args.sheet.now c.number-v.result c.number-p.result c.number-first.result c.follow.result c.number-v.ensures c.number-p.ensures c.number-first.ensures c.follow.ensures
