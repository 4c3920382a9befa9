-- The part that is lent has as many words as the strip, or one too many. Assumes nothing.
use mathlib.Core.Path.{sym}
use Rattle.byteput.proofs.Parts.{part_fits, part_long, lesser_most, part_is}
use Rattle.byteput.proofs.Calls.{place_step}
use Rattle.byteput.proofs.place_bytes.Goals as goal

pub slice_bounds-words-end : goal.slice_bounds-words-end
slice_bounds-words-end c = part_fits _ (lesser_most _ _ c.min-n.ensures)

pub slice_bounds-put_back-end : goal.slice_bounds-put_back-end
slice_bounds-put_back-end c = sym (part_long _ (lesser_most _ _ c.min-n.ensures))

pub put_back-requires : goal.put_back-requires
put_back-requires c = part_is _ _ c.min-n.ensures

pub returns : goal.returns
returns c = place_step c.put_back.ensures
