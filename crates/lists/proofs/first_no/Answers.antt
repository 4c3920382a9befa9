-- The first refusal of the whole list is that of the pieces still to come. Assumes nothing.
use mathlib.Core.Path.{refl}
use native.Mathlib.Omega.{arith}
use Rattle.laws.proofs.Questions.{question_6_list}
use Rattle.lists.proofs.Asking.{ask_start, whole_here, ask_next, ask_stop, ask_at, ask_end}
use Rattle.lists.proofs.first_no.Goals as goal

pub bounds-list-0 : goal.bounds-list-0
bounds-list-0 c = omega (arith, ((question_6_list c.args.list.now).0 c.requires).count_word)

pub loop-k-init : goal.loop-k-init
loop-k-init c = ask_at (omega arith) (ask_start _ c.requires refl)

pub ask_piece-requires : goal.ask_piece-requires
ask_piece-requires c = c.loop-k.invariant.in_list

pub returns-in-Err : goal.returns-in-Err
returns-in-Err c = rw c.refused.ensures (ask_stop c.loop-k.invariant (omega arith) (rw c.in-Err.is at c.ask_piece.ensures))

pub bounds-list-a : goal.bounds-list-a
bounds-list-a c = omega (arith, (whole_here c.loop-k.invariant (omega arith) (rw c.in_default.is at c.ask_piece.ensures)).whole)

pub loop-k-preserved : goal.loop-k-preserved
loop-k-preserved c = ask_at (omega arith) (ask_next c.loop-k.invariant (omega arith) (rw c.in_default.is at c.ask_piece.ensures) refl)

pub returns : goal.returns
returns c = ask_end c.loop-k.invariant (omega arith)
