-- Each turn of the loop stores one free record more, and the last is stored after it. Assumes nothing.
use mathlib.Core.Path.{refl, ap, ◌∙◌}
use native.Mathlib.Omega.{arith}
use Prim.Native.Nat.{◌+◌, ◌-◌}
use lib.Seq.{sets}
use Rattle.defs.specs.Computing.Words.{free_words}
use Rattle.words.proofs.Storing.{storing_start, storing_four, storing_end}
use Rattle.freerecords.proofs.Words.{free_parts, free_next, free_last, free_end}
use Rattle.freerecords.proofs.put_free.Goals as goal

pub returns-then-t-q : goal.returns-then-t-q
returns-then-t-q c =
    let a = c.args in
    storing_end (free_end a.n (a.t + 1) a.t a.q (omega arith)) (storing_start a.strip.now a.at (free_words a.n (a.t + 1) (a.q - a.t)))

pub loop-i-preserved : goal.loop-i-preserved
loop-i-preserved c =
    let a = c.args in
    let l = c.loop-i in (
      omega arith,
      storing_four {d = l.i + 2} (c.put_parts.ensures ∙ ap (sets l.strip l.p) (free_parts a.n (l.i + 2) (omega arith)))
          (omega arith) (free_next a.n l.i a.q (omega arith)) l.invariant.1,
    )

pub returns : goal.returns
returns c =
    let a = c.args in
    let l = c.loop-i in
    storing_end refl (storing_four c.put_four.ensures refl (free_last a.n l.i a.q (omega arith)) l.invariant.1)
