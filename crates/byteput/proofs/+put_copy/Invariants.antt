-- What falls is the length of the work buffer.
use Rattle.std.proofs.Common.{length}
use Rattle.byteput.proofs.+put_copy.Given as goal

abbrev pub decreases-put_copy : goal.decreases-put_copy
decreases-put_copy l = length l.work.now
