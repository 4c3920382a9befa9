-- The part that is lent has as many words as the strip, or one too many. Assumes nothing.
use mathlib.Core.Path.{sym}
use Rattle.byteput.proofs.Parts.{part_fits, part_long, lesser_most, part_is}
use Rattle.bytecalls.proofs.open_bytes.Goals as goal

pub slice_bounds-words-end : goal.slice_bounds-words-end
slice_bounds-words-end c = part_fits _ (lesser_most _ _ c.min-n.ensures)

pub slice_bounds-open_words-end : goal.slice_bounds-open_words-end
slice_bounds-open_words-end c = sym (part_long _ (lesser_most _ _ c.min-n.ensures))

pub open_words-requires : goal.open_words-requires
open_words-requires c = part_is _ _ c.min-n.ensures
