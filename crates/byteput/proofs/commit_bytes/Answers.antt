-- The answer of a commit, from the form of place's. Assumes nothing.
use mathlib.Core.Path.{sym}
use Rattle.byteput.proofs.Parts.{part_fits, part_long, lesser_most, part_is}
use Rattle.byteput.proofs.Calls.{commit_step}
use Rattle.byteput.proofs.commit_bytes.Goals as goal

pub slice_bounds-words-end : goal.slice_bounds-words-end
slice_bounds-words-end c = part_fits _ (lesser_most _ _ c.min-n.ensures)

pub slice_bounds-put_back-end : goal.slice_bounds-put_back-end
slice_bounds-put_back-end c = sym (part_long _ (lesser_most _ _ c.min-n.ensures))

pub put_back-x-requires : goal.put_back-x-requires
put_back-x-requires c = part_is _ _ c.min-n.ensures

pub returns : goal.returns
returns c = commit_step c.put_back-x.ensures c.committed.ensures
