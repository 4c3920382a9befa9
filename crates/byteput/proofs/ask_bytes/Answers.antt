-- The copy of the strip is not put back. Assumes nothing.
use mathlib.Core.Path.{sym}
use Rattle.byteput.proofs.Parts.{part_fits, part_long, lesser_most, part_is}
use Rattle.byteput.proofs.Calls.{ask_step}
use Rattle.byteput.proofs.ask_bytes.Goals as goal

pub slice_bounds-words-end : goal.slice_bounds-words-end
slice_bounds-words-end c = part_fits _ (lesser_most _ _ c.min-n.ensures)

pub slice_bounds-put_copy-end : goal.slice_bounds-put_copy-end
slice_bounds-put_copy-end c = sym (part_long _ (lesser_most _ _ c.min-n.ensures))

pub put_copy-requires : goal.put_copy-requires
put_copy-requires c = part_is _ _ c.min-n.ensures

pub returns : goal.returns
returns c = ask_step (λ i _. (c.type_inv.strip i).fits) c.put_copy.ensures
