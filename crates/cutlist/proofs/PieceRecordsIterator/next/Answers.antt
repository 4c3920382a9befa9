-- One step along the chain, read by a reader. Assumes nothing.
use mathlib.Core.Path.{refl, ap}
use native.Mathlib.Omega.{arith}
use borrow.Author.Rules.{rules}
use lib.ListN.{length}
use Rattle.reader.proofs.Told.{reached, next_read}
use Rattle.cutlist.proofs.Chained.{none, here, onward, rest}
use Rattle.cutlist.proofs.PieceRecordsIterator.next.Goals as goal

pub returns-then-self-eq0-clause-steps : goal.returns-then-self-eq0-clause-steps
returns-then-self-eq0-clause-steps c =
    record {
      same = record { sheet = refl; vertices = refl };
      yields = (none _ c.if-self-eq0.true, none _ c.if-self-eq0.true);
      here = tt;
    }

pub overflow_add-self : goal.overflow_add-self
overflow_add-self c = omega (arith, (here c.args.self.now.ends c.if-self-eq0.false).in_sheet)

pub present-requires : goal.present-requires
present-requires c = reached c.start.ensures (here c.args.self.now.ends c.if-self-eq0.false).in_sheet

pub invariant_of-self : goal.invariant_of-self
invariant_of-self c = record { ends = onward c.args.self.now.ends c.if-self-eq0.false (next_read c.start.ensures c.present.ensures) }

pub returns-clause-steps : goal.returns-clause-steps
returns-clause-steps c =
    record {
      same = record { sheet = refl; vertices = refl };
      yields = rest c.args.self.now.ends c.if-self-eq0.false (next_read c.start.ensures c.present.ensures);
      here = here c.args.self.now.ends c.if-self-eq0.false;
    }

pub returns-clause-goes : goal.returns-clause-goes
returns-clause-goes c =
    let e = ap length (rest c.args.self.now.ends c.if-self-eq0.false (next_read c.start.ensures c.present.ensures)) in
    search rules
