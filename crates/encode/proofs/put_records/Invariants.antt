-- Each turn of the loop stores the records of one column more; the runs before it say where they go. Assumes nothing.
use Prim.Native.Nat.{◌-◌, ◌≤◌}
use Rattle.encode.proofs.Columns.{Recording}
use Rattle.encode.proofs.put_records.Given as goal

abbrev pub invariant-loop-k : goal.invariant-loop-k
invariant-loop-k l = Recording l.first l.lows l.highs l.n l.initial.strip l.strip l.k
