-- What is left of the chain decides the whole, and the count of records left ends the loop. Assumes nothing.
use mathlib.Core.Path.{refl}
use native.Mathlib.Omega.{arith}
use borrow.Author.Rules.{rules}
use Rattle.reader.proofs.Told.{next_read}
use Rattle.sheets.proofs.Chains.{walk_start, walk_next, walk_end}
use Rattle.records.proofs.Copies.{walk_out}
use Rattle.records.proofs.follow.Goals as goal

pub loop-at-init : goal.loop-at-init
loop-at-init c = (walk_start refl, search rules)

pub returns-then-left-eq0 : goal.returns-then-left-eq0
returns-then-left-eq0 c = walk_out c.loop-at.invariant.0 (omega arith) c.then-left-eq0.either

pub loop-at-preserved : goal.loop-at-preserved
loop-at-preserved c = (walk_next c.loop-at.invariant.0 (omega arith) (omega arith) (omega arith) (next_read c.start.ensures c.present-at.ensures), search rules)

pub overflow_sub-result : goal.overflow_sub-result
overflow_sub-result c = omega (arith, c.loop-at.invariant.0.few)

pub returns : goal.returns
returns c = walk_end c.loop-at.invariant.0 (omega arith)
