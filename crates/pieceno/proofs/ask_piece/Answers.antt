-- Questions 7 to 11 of a piece: 7 by the walk or by the outline, the others by the outline. Assumes nothing.
use native.Mathlib.Omega.{arith}
use Rattle.reader.proofs.Told.{first_read, second_read}
use Rattle.pieceno.proofs.Asking.{piece_asked}
use Rattle.cutlist.proofs.Words.{no_7, no_of}
use Rattle.pieceno.proofs.ask_piece.Goals as goal

pub returns-in_default : goal.returns-in_default
returns-in_default c =
    (no_7 _ _ c.requires.fact_1 (first_read c.start.ensures c.present-piece.ensures) (rw c.in_default.is at c.gather.ensures), omega arith)

pub returns : goal.returns
returns c =
    piece_asked _ _
    (λ n.
    no_of _ _ c.requires.fact_1 (first_read c.start.ensures c.present-piece.ensures) (rw c.in-Some.is at c.gather.ensures)
    (omega arith) (second_read c.start.ensures c.present-piece.ensures) c.requires.fact_2 c.nine.ensures)
    c.ask_outline.result c.ask_outline.ensures
