-- The gathered words are the piece's outline, which passes 7 to 10. Assumes nothing.
use native.Mathlib.Omega.{arith}
use Rattle.reader.proofs.Told.{first_read, second_read}
use Rattle.piece.proofs.Pieces.{found, outline, mask, ordered, none_before}
use Rattle.piece.proofs.lay_piece.Goals as goal

pub unwrap-n-requires : goal.unwrap-n-requires
unwrap-n-requires c =
    found _ _ c.requires.fact_1 (first_read c.start.ensures c.present-piece.ensures) c.requires.fact_2 _ _ c.gather.result c.gather.ensures

pub lay_outline-requires : goal.lay_outline-requires
lay_outline-requires c = let g = rw c.unwrap-n.ensures at c.gather.ensures in
    let pre = c.requires in
    let first = first_read c.start.ensures c.present-piece.ensures in
    let second = second_read c.start.ensures c.present-piece.ensures in record {
      fact_1 = pre.fact_3;
      fact_2 = ordered _ _ pre.fact_1 first pre.fact_2 g (omega arith) second;
      fact_3 = pre.fact_4.0;
      fact_4 = pre.fact_4.1;
      fact_5 = none_before _ _ pre.fact_1 first pre.fact_2 g (omega arith) second _ pre.fact_5;
    }

pub returns : goal.returns
returns c = let g = rw c.unwrap-n.ensures at c.gather.ensures in
    let first = first_read c.start.ensures c.present-piece.ensures in
    let second = second_read c.start.ensures c.present-piece.ensures in
    rw (outline _ _ c.requires.fact_1 first c.requires.fact_2 g (omega arith) second, mask _ _ c.requires.fact_1 first c.requires.fact_2 g (omega arith) second) at c.lay_outline.ensures
