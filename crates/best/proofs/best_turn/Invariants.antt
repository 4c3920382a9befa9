-- The allowed turns are tried from 0 on. Assumes nothing.
use lib.ListN.{length}
use Rattle.best.specs.Of.{TurnsOn, KeptOn}
use Rattle.best.proofs.best_turn.Given as goal

abbrev pub invariant-loop-t : goal.invariant-loop-t
invariant-loop-t l = TurnsOn l.board l.o l.mask l.t (length l.initial.work) l.way l.s × KeptOn l.board l.o l.work l.s.stands.turn l.s.stands.runs
