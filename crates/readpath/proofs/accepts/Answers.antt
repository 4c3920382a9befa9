-- The coordinates still to look at decide the whole; the words still to store, where they go, give the whole. Assumes nothing.
use lib.Seq.{lt-length-set}
use native.Mathlib.Omega.{arith}
use Rattle.readpath.proofs.Lines.{drawn}
use Rattle.readpath.proofs.Words.{keeping_start, keeping_next, keeping_not, keeping_end}
use Rattle.readpath.proofs.accepts.Goals as goal

pub loop-i-init : goal.loop-i-init
loop-i-init c = keeping_start _ _ _

pub vertex_at-requires : goal.vertex_at-requires
vertex_at-requires c = drawn _ c.requires.fact_1 c.loop-i-test.true

pub shape_of-words-in_default : goal.shape_of-words-in_default
shape_of-words-in_default c = c.loop-i.invariant.same

pub returns-in_default : goal.returns-in_default
returns-in_default c = keeping_not c.loop-i.invariant c.loop-i-test.true c.requires.fact_1 c.vertex_at.ensures c.in_default.is

pub bounds-words-i-in-loop-i : goal.bounds-words-i-in-loop-i
bounds-words-i-in-loop-i c = lt-length-set c.loop-i.words _ _ (omega (arith, c.loop-i.invariant.same, c.requires.fact_2, c.loop-i-test.true))

pub loop-i-preserved : goal.loop-i-preserved
loop-i-preserved c = keeping_next c.loop-i.invariant c.loop-i-test.true c.vertex_at.ensures c.in-Some.is

pub shape_of-words : goal.shape_of-words
shape_of-words c = c.loop-i.invariant.same

pub returns : goal.returns
returns c = keeping_end c.requires.fact_1 c.requires.fact_2 c.loop-i.invariant c.loop-i-test.false
