-- Two words and two for each vertex of the chain. Assumes nothing.
use native.Mathlib.Omega.{arith}
use Rattle.reader.proofs.Told.{first_read}
use Rattle.cutlist.proofs.Words.{ends_few, piece_counted}
use Rattle.cutlist.proofs.piece_words.Goals as goal

pub overflow_mul-result : goal.overflow_mul-result
overflow_mul-result c = let g = rw c.unwrap-n.ensures at c.follow.ensures in omega (arith, ends_few g)

pub overflow_add-result : goal.overflow_add-result
overflow_add-result c = let g = rw c.unwrap-n.ensures at c.follow.ensures in omega (arith, ends_few g)

pub returns : goal.returns
returns c =
    piece_counted _ _ c.requires.fact_1 (first_read c.start.ensures c.present-piece.ensures) c.requires.fact_2
    (rw c.unwrap-n.ensures at c.follow.ensures)
