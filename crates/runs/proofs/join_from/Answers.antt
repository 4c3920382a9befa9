-- `join_from` meets its contract: the run goes between the runs, or in the place of those that it meets.
-- Assumes nothing.
use native.Mathlib.Omega.{arith}
use mathlib.Core.Path.{◌∙◌}
use lib.ListN.{length-set}
use Rattle.runs.proofs.Splice.{splice, apart_merged, met_merged, grown, shrunk}
use Rattle.runs.proofs.join_from.Goals as goal

pub shift_down-requires : goal.shift_down-requires
shift_down-requires c = simp length-set (omega (arith, c.pass-b.ensures))

pub shift_down-requires-else-a-b : goal.shift_down-requires-else-a-b
shift_down-requires-else-a-b c = simp length-set (omega (arith, c.pass-b.ensures))

pub returns-then-a-b : goal.returns-then-a-b
returns-then-a-b c =
    let r = c.reach-a.ensures in
    let p = c.pass-b.ensures in
    let apart = c.requires.fact_1 in
    splice _ r.from apart p.from p.most (omega arith) (apart_merged apart (omega arith) (omega arith) r p)
    (grown _ (omega arith) c.shift_up.ensures (omega arith))
    (grown _ (omega arith) c.shift_up-then-a-b.ensures (omega arith))

pub shape_of-lows-else-a-b : goal.shape_of-lows-else-a-b
shape_of-lows-else-a-b c = c.shift_down.ensures.long ∙ simp length-set

pub shape_of-highs-else-a-b : goal.shape_of-highs-else-a-b
shape_of-highs-else-a-b c = c.shift_down-else-a-b.ensures.long ∙ simp length-set

pub returns-else-a-b : goal.returns-else-a-b
returns-else-a-b c =
    let r = c.reach-a.ensures in
    let p = c.pass-b.ensures in
    let apart = c.requires.fact_1 in
    splice _ r.from apart p.from p.most (omega arith)
    (rw (c.min.ensures, c.max.ensures)
    (met_merged _ apart (omega arith) (omega arith) (omega arith) r p))
    (shrunk _ c.shift_down.ensures (omega arith) (omega arith))
    (shrunk _ c.shift_down-else-a-b.ensures (omega arith) (omega arith))
