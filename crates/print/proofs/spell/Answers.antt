-- The digits from the last on, by what is left to spell. Assumes nothing.
use native.Mathlib.Omega.{arith}
use Rattle.print.proofs.Puts.{spell_next, spell_end, spell_all}
use Rattle.print.proofs.spell.Goals as goal

pub returns-then-rest-lt10 : goal.returns-then-rest-lt10
returns-then-rest-lt10 c = spell_end c.loop-i.invariant (omega arith) (omega arith) c.digit.ensures (omega arith)

pub loop-i-preserved : goal.loop-i-preserved
loop-i-preserved c = spell_next c.loop-i.invariant (omega arith) (omega arith) c.digit.ensures (omega arith)

pub returns : goal.returns
returns c = spell_all c.loop-i.invariant (omega arith)
