-- The records still to write, stored where they go, give the whole. Assumes nothing.
use mathlib.Core.List.{map}
use Prim.Native.Nat.{◌+◌, ◌-◌, ◌*◌}
use lib.ListN.{drop}
use lib.Seq.{sets}
use Rattle.defs.specs.Meaning.Sheet.{list_piece}
use Rattle.defs.specs.Computing.Sheets.{pieces_bytes, list_tails}
use Rattle.recordbytes.proofs.Tails.{Recording}
use Rattle.recordbytes.proofs.put_pieces.Given as goal

abbrev pub invariant-loop-i : goal.invariant-loop-i
invariant-loop-i l = Recording l.list l.initial.out l.out (sets l.initial.out l.to (pieces_bytes 1 1 (map list_piece (list_tails l.count (drop 1 l.list))))) l.a (l.count - l.i) (l.i + 1) l.v (l.to + 6 * l.i)
