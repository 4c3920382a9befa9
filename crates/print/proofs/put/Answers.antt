-- The bytes that are copied stand where they go. Assumes nothing.
use Rattle.print.proofs.Puts.{put_copied}
use Rattle.print.proofs.put.Goals as goal

pub returns : goal.returns
returns c = put_copied c.copy_from_slice.ensures.after c.requires
