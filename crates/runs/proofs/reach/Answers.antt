-- `reach` meets its contract: at least v is above v - 1, and every word is at least 0.
-- Assumes nothing.
use native.Mathlib.Omega.{arith}
use Rattle.runs.proofs.reach.Goals as goal

pub returns-else-v-eq0 : goal.returns-else-v-eq0
returns-else-v-eq0 c =
    let p = c.pass.ensures in
    record {
      from = p.from;
      most = p.most;
      below = λ k h a. omega (arith, p.within k h a);
      found = λ h. omega (arith, p.found h);
    }
