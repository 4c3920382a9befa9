-- The count, and the pieces after it. Assumes nothing.
use mathlib.Core.Path.{ap, ◌∙◌}
use lib.ListN.{length, length-set}
use lib.Seq.{length-sets}
use Rattle.defs.specs.Meaning.Sheet.{pieces_words}
use Rattle.defs.specs.Computing.Sheets.{sheet_pieces}
use Rattle.cutlist.proofs.Lists.{whole_list}
use Rattle.cutlist.proofs.put_list.Goals as goal

pub shape_of-out : goal.shape_of-out
shape_of-out c = ap length c.put_pieces.ensures ∙ simp (length-sets, length-set)

pub returns : goal.returns
returns c =
    whole_list c.args.out.now c.put_pieces.new.out (pieces_words (sheet_pieces c.args.sheet.now)) c.args.count
    (length (sheet_pieces c.args.sheet.now)) c.requires.fact_2 c.put_pieces.ensures
