-- Each turn of the loop stores one free record more, and the last is stored after it. Assumes nothing.
use mathlib.Core.Path.{◌≡◌}
use Prim.Native.Nat.{◌+◌, ◌*◌, ◌-◌, ◌≤◌, ◌<◌}
use Rattle.defs.specs.Computing.Words.{free_words}
use Rattle.words.proofs.Storing.{Storing}
use Rattle.freerecords.proofs.put_free.Given as goal

abbrev pub invariant-loop-i : goal.invariant-loop-i
invariant-loop-i l =
    (l.p + 4 * l.t ≡ l.at + 4 * l.i) ×
    Storing l.initial.strip l.at (free_words l.n (l.t + 1) (l.q - l.t)) l.strip l.p (free_words l.n (l.i + 1) (l.q - l.i))
