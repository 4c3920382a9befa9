-- The part that is lent has as many words as the outline, or one too many. Assumes nothing.
use mathlib.Core.Path.{sym}
use Rattle.byteput.proofs.Parts.{part_fits, part_long, lesser_most, part_is}
use Rattle.byteput.proofs.put_with.Goals as goal

pub slice_bounds-corners-end : goal.slice_bounds-corners-end
slice_bounds-corners-end c = part_fits _ (lesser_most _ _ c.min-m.ensures)

pub slice_bounds-put_words-end : goal.slice_bounds-put_words-end
slice_bounds-put_words-end c = sym (part_long _ (lesser_most _ _ c.min-m.ensures))

pub put_words-requires : goal.put_words-requires
put_words-requires c = record {
  fact_1 = c.requires;
  fact_2 = part_is _ _ c.min-m.ensures;
}
