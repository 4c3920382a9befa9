-- The part of the output is the words. Assumes nothing.
use Rattle.words.proofs.Copied.{part_stored}
use Rattle.words.proofs.copy_in.Goals as goal

pub returns : goal.returns
returns c = part_stored _ _ _ _ c.requires c.copy_from_slice.ensures.after
