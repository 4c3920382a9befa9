-- Each turn of the loop stores the records of one column more; the runs before it say where they go. Assumes nothing.
use native.Mathlib.Omega.{arith}
use Rattle.encode.proofs.Columns.{recording_start, recording_fits, recording_next, recording_end}
use Rattle.encode.proofs.put_records.Goals as goal

pub loop-k-init : goal.loop-k-init
loop-k-init c = recording_start c.requires.table _

pub put_column-requires : goal.put_column-requires
put_column-requires c =
    let p = c.requires in
    recording_fits p.table _ c.loop-k-test.true p.room.1 c.loop-k.invariant

pub loop-k-preserved : goal.loop-k-preserved
loop-k-preserved c =
    recording_next c.requires.table _ c.loop-k-test.true c.loop-k.invariant c.put_column.ensures

pub returns : goal.returns
returns c = recording_end c.requires.table _ c.loop-k-test.false c.loop-k.invariant
