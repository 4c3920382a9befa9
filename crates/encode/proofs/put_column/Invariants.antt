-- Each turn of the loop stores the record of one run more, and the last is stored after it. Assumes nothing.
use mathlib.Core.Path.{◌≡◌}
use Prim.Native.Nat.{◌+◌, ◌*◌, ◌-◌, ◌≤◌, ◌<◌}
use Rattle.defs.specs.Computing.Words.{column_words}
use Rattle.tables.specs.Flat.{rows_from}
use Rattle.words.proofs.Storing.{Storing}
use Rattle.encode.proofs.put_column.Given as goal

abbrev pub invariant-loop-i : goal.invariant-loop-i
invariant-loop-i l =
    (l.p + 4 * l.from ≡ l.at + 4 * l.i) ×
    Storing l.initial.strip l.at (column_words l.k (l.from + 1) (rows_from l.lows l.highs l.from (l.end - l.from))) l.strip l.p
    (column_words l.k (l.i + 1) (rows_from l.lows l.highs l.i (l.end - l.i)))
