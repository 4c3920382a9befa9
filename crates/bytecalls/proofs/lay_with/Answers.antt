-- The parts that are lent have as many words as strip and output, or as many as are of use. Assumes nothing.
use mathlib.Core.Path.{sym}
use Rattle.byteput.proofs.Parts.{part_fits, part_long, lesser_most, part_is}
use Rattle.bytecalls.proofs.lay_with.Goals as goal

pub slice_bounds-words-end : goal.slice_bounds-words-end
slice_bounds-words-end c = part_fits _ (lesser_most _ _ c.min-n.ensures)

pub slice_bounds-lay_words-end : goal.slice_bounds-lay_words-end
slice_bounds-lay_words-end c = sym (part_long _ (lesser_most _ _ c.min-n.ensures))

pub slice_bounds-entries-end : goal.slice_bounds-entries-end
slice_bounds-entries-end c = part_fits _ (lesser_most _ _ c.min-m.ensures)

pub slice_bounds-lay_words-end-2 : goal.slice_bounds-lay_words-end-2
slice_bounds-lay_words-end-2 c = sym (part_long _ (lesser_most _ _ c.min-m.ensures))

pub lay_words-requires : goal.lay_words-requires
lay_words-requires c = record {
  fact_1 = part_is _ _ c.min-n.ensures;
  fact_2 = part_is _ _ c.min-m.ensures;
}
