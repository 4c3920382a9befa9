-- The vertices still to copy, stored where they go, give the whole. Assumes nothing.
use native.Mathlib.Omega.{arith}
use borrow.Author.Rules.{rules}
use Rattle.reader.proofs.Told.{first_read, second_read, next_read}
use Rattle.records.proofs.Copies.{gather_start, gather_next, gather_out, gather_end}
use Rattle.records.proofs.gather.Goals as goal

pub loop-at-init : goal.loop-at-init
loop-at-init c = (gather_start _ _ _ _, search rules)

pub returns-then-k-ge-MOST_VERTICES : goal.returns-then-k-ge-MOST_VERTICES
returns-then-k-ge-MOST_VERTICES c = gather_out c.loop-at.invariant.0 (omega arith) c.then-k-ge-MOST_VERTICES.either

pub loop-at-preserved : goal.loop-at-preserved
loop-at-preserved c = (gather_next c.loop-at.invariant.0 (omega arith) (omega arith) (omega arith) (first_read c.start.ensures c.present-n.ensures) (second_read c.start.ensures c.present-n.ensures) (next_read c.start.ensures c.present-n.ensures), search rules)

pub returns : goal.returns
returns c = gather_end c.loop-at.invariant.0 (omega arith)
