-- Question 7 of a list's piece, where there is a word. Assumes nothing.
use mathlib.Core.Path.{refl}
use Rattle.lists.proofs.Asking.{seven_none, seven_out, seven_is}
use Rattle.lists.proofs.complete.Goals as goal

pub returns-then-a-list : goal.returns-then-a-list
returns-then-a-list c = seven_none _ _ c.if-a-list.true

pub returns-then-m-lt-LEAST_VERTICES : goal.returns-then-m-lt-LEAST_VERTICES
returns-then-m-lt-LEAST_VERTICES c = seven_out c.args.list.now c.args.a refl c.then-m-lt-LEAST_VERTICES.either

pub returns : goal.returns
returns c = seven_is c.args.list.now c.args.a refl c.if-m-lt-LEAST_VERTICES.false c.if-m-gt-MOST_VERTICES.false
