-- Each turn of the loop stores the record of one run more, and the last is stored after it. Assumes nothing.
use mathlib.Core.Path.{◌≡◌, refl}
use native.Mathlib.Omega.{arith}
use Prim.Native.Nat.{◌+◌, ◌-◌}
use Rattle.defs.specs.Computing.Words.{column_words}
use Rattle.tables.specs.Flat.{rows_from}
use Rattle.words.proofs.Storing.{storing_start, storing_four, storing_end}
use Rattle.freerecords.proofs.Words.{column_next, column_last, column_end}
use Rattle.encode.proofs.put_column.Goals as goal

pub returns-then-from-end : goal.returns-then-from-end
returns-then-from-end c =
    let a = c.args in
    storing_end (column_end a.k (a.from + 1) a.lows.now a.highs.now a.from a.end (omega arith))
    (storing_start a.strip.now a.at (column_words a.k (a.from + 1) (rows_from a.lows.now a.highs.now a.from (a.end - a.from))))

pub loop-i-preserved : goal.loop-i-preserved
loop-i-preserved c =
    let a = c.args in
    let l = c.loop-i in (
      omega arith,
      storing_four {d = l.i + 2} c.put_four.ensures (omega arith)
          (column_next a.k a.lows.now a.highs.now l.i a.end (omega arith)) l.invariant.1,
    )

pub returns : goal.returns
returns c =
    let a = c.args in
    let l = c.loop-i in
    let e : l.i ≡ a.end - 1 = omega arith in
    storing_end refl (storing_four c.put_four-2.ensures refl
    (rw e at (column_last a.k a.lows.now a.highs.now l.i a.end (omega arith))) (rw e at l.invariant.1))
