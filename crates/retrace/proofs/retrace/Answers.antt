-- `retrace` meets its contract: 7 and 8 are asked, then the edges are gone through. Assumes nothing.
use mathlib.Core.Path.{refl}
use Rattle.checks.proofs.Bounded.{lent_by}
use Rattle.retrace.proofs.Scan.{refused_no, looked}
use Rattle.retrace.proofs.retrace.Goals as goal

pub first_pair-requires : goal.first_pair-requires
first_pair-requires c = let p = rw c.in-Ok.is at c.bounds.ensures in lent_by _ p.0

pub returns-in-Err : goal.returns-in-Err
returns-in-Err c = let p = rw c.in-Err.is at c.bounds.ensures in refused_no p.0 p.1 c.refused.ensures

pub returns-in-Ok : goal.returns-in-Ok
returns-in-Ok c = let p = rw c.in-Ok.is at c.bounds.ensures in looked _ p.0 c.first_pair.ensures refl
