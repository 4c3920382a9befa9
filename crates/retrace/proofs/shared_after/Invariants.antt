-- `shared_after` meets its contract: no edge between i and j shares a stretch with edge i. Assumes nothing.
use Rattle.defs.specs.Meaning.Outline.{sides}
use Rattle.laws.proofs.First.{LeftFrom}
use Rattle.strokes.specs.Retrace.{shared_after}
use Rattle.retrace.proofs.Scan.{later_shared}
use Rattle.retrace.proofs.shared_after.Given as goal

abbrev pub invariant-loop-j : goal.invariant-loop-j
invariant-loop-j l = LeftFrom (later_shared l.o l.i) (sides l.o) (shared_after l.o l.i) l.j
