-- The records still to write, stored where they go, give the whole. Assumes nothing.
use Prim.Native.Nat.{◌+◌, ◌-◌, ◌*◌}
use lib.ListN.{take, drop}
use lib.Seq.{sets}
use Rattle.defs.specs.Computing.Sheets.{outline_bytes}
use Rattle.recordbytes.proofs.Puts.{Outlining}
use Rattle.recordbytes.proofs.put_outline.Given as goal

abbrev pub invariant-loop-i : goal.invariant-loop-i
invariant-loop-i l = Outlining l.list l.initial.out l.out (sets l.initial.out l.to (outline_bytes l.first (take (2 * l.count) (drop l.from l.list)))) (l.from + 2 * l.i) (l.count - l.i) (l.first + l.i) (l.to + 6 * l.i)
