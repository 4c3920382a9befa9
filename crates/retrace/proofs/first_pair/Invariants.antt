-- `first_pair` meets its contract: no edge before i shares a stretch with a later one. Assumes nothing.
use Rattle.defs.specs.Meaning.Outline.{sides}
use Rattle.laws.proofs.First.{LeftFrom}
use Rattle.strokes.specs.Retrace.{first_pair}
use Rattle.retrace.proofs.Scan.{pair_at}
use Rattle.retrace.proofs.first_pair.Given as goal

abbrev pub invariant-loop-i : goal.invariant-loop-i
invariant-loop-i l = LeftFrom (pair_at l.o) (sides l.o) (first_pair l.o) l.i
