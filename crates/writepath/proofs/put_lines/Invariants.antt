-- The lines still to store, where they go, give the whole. Assumes nothing.
use lib.ListN.{drop}
use lib.Seq.{sets}
use Rattle.pathdefs.specs.Computing.Paths.{lines_bytes}
use Rattle.writepath.proofs.Lines.{Lining}
use Rattle.writepath.proofs.put_lines.Given as goal

abbrev pub invariant-loop-i : goal.invariant-loop-i
invariant-loop-i l = Lining l.outline l.initial.out l.out (sets l.initial.out 9 (lines_bytes (drop 2 l.outline))) l.i
