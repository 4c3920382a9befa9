-- What falls is the length of the work buffer.
use Rattle.std.proofs.Common.{length}
use Rattle.bytecalls.proofs.+lay_bytes.Given as goal

abbrev pub decreases-lay_bytes : goal.decreases-lay_bytes
decreases-lay_bytes l = length l.work.now
