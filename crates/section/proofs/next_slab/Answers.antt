-- `next_slab` meets its contract: the slab from a to its answer is neat, and its entries are loaded.
-- Each end that is tried is a cut, since a lesser end than a cut's is one; its entries are tidy, or it is a unit column. Assumes nothing.
use native.Mathlib.Omega.{arith}
use Rattle.entries.proofs.Entries.{all_fit}
use Rattle.section.proofs.Cuts.{cut_spanned, cut_turned, cut_shorter, held_tidy, held_unit}
use Rattle.section.proofs.next_slab.Goals as goal

pub load-l-requires : goal.load-l-requires
load-l-requires c = let p = c.requires in cut_spanned (cut_turned _ _ p.cut) p.room.0 p.room.1 p.room.2

pub loop-e-init : goal.loop-e-init
loop-e-init c =
    let p = c.requires in
    record { left = omega (arith, p.room.0); right = omega (arith, p.room.1); wide = omega (arith, p.room.2); cut = p.cut; loads = c.load-l.ensures; most = omega arith }

pub tidy-requires : goal.tidy-requires
tidy-requires c = let i = c.loop-e.invariant in all_fit i.loads.loaded c.args.o.lent.few i.left i.right i.wide

pub returns-then-tidy : goal.returns-then-tidy
returns-then-tidy c = let i = c.loop-e.invariant in held_tidy _ _ i.cut i.loads (c.tidy.ensures c.if-tidy.true)

pub load-l-requires-in-loop-e : goal.load-l-requires-in-loop-e
load-l-requires-in-loop-e c =
    let i = c.loop-e.invariant in cut_spanned (cut_turned _ _ (cut_shorter i.cut (omega arith) (omega arith))) i.left i.right i.wide

pub loop-e-preserved : goal.loop-e-preserved
loop-e-preserved c =
    let i = c.loop-e.invariant in
    record {
      left = omega (arith, i.left);
      right = omega (arith, i.right);
      wide = omega (arith, i.wide);
      cut = cut_shorter i.cut (omega arith) (omega arith);
      loads = c.load-l-in-loop-e.ensures;
      most = omega (arith, i.most);
    }

pub returns : goal.returns
returns c = let i = c.loop-e.invariant in held_unit _ _ i.cut i.loads c.requires.ordered c.loop-e-test.false
