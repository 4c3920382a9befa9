-- Count and mask stored, and the gathered words after them. Assumes nothing.
use mathlib.Core.Path.{ap, ◌∙◌}
use native.Mathlib.Omega.{arith}
use lib.ListN.{length, length-set}
use lib.Seq.{length-sets}
use Rattle.reader.proofs.Told.{first_read, second_read}
use Rattle.cutlist.proofs.Words.{piece_put, copy_room}
use Rattle.cutlist.proofs.put_piece.Goals as goal

pub copy_in-requires : goal.copy_in-requires
copy_in-requires c =
    simp length-set (copy_room _ _ c.requires.here (first_read c.start.ensures c.present-piece.ensures)
    (rw c.unwrap-n.ensures at c.gather.ensures) (omega arith) c.requires)

pub shape_of-out : goal.shape_of-out
shape_of-out c = ap length c.copy_in.ensures ∙ simp (length-sets, length-set)

pub returns : goal.returns
returns c =
    piece_put _ _ c.requires.here (first_read c.start.ensures c.present-piece.ensures) (rw c.unwrap-n.ensures at c.gather.ensures)
    (omega arith) _ _ _ _ (second_read c.start.ensures c.present-piece.ensures) c.copy_in.ensures
