-- The call that writes a path: questions 7 and 8, and then the rest. Assumes nothing.
use mathlib.Core.Path.{refl}
use Rattle.checks.proofs.Bounded.{passed}
use Rattle.writepath.proofs.Outputs.{refused_no}
use Rattle.writepath.proofs.write_path.Goals as goal

pub write_passed-requires : goal.write_passed-requires
write_passed-requires c = let p = rw c.in_default.is at c.bounds.ensures in passed _ p.0

pub returns-in-Err : goal.returns-in-Err
returns-in-Err c = let p = rw c.in-Err.is at c.bounds.ensures in refused_no _ _ p.0 p.1 c.refused.ensures refl
