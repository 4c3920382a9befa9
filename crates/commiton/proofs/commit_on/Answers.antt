-- 7 to 10 are asked before the others. Assumes nothing.
use mathlib.Core.Path.{sym}
use Rattle.commiton.proofs.Answers.{to_ten, refused_on}
use Rattle.commiton.proofs.commit_on.Goals as goal

pub commit_runs-requires : goal.commit_runs-requires
commit_runs-requires c = let p = rw c.in-Ok.is at c.order.ensures in record {
  room = c.requires;
  passes = record { none_no = sym p.0 };
  bounds = p.1;
}

pub returns-in-Err : goal.returns-in-Err
returns-in-Err c = let p = rw c.in-Err.is at c.order.ensures in refused_on c.refused.ensures (to_ten _ _ _ _ _ _ _ _ _ p.0 p.1)
