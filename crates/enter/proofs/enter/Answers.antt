-- `enter` meets its contract: the first k columns of the new table are entered, and have no more runs than they may.
-- Assumes nothing.
use mathlib.Core.Path.{◌≡◌}
use native.Mathlib.Omega.{arith}
use Rattle.columnentry.proofs.Adding.{room_left}
use Rattle.enter.proofs.Building.{building_none, building_next}
use Rattle.enter.proofs.Whole.{too_many, all_entered}
use borrow.Author.Rules.{rules}
use Rattle.enter.proofs.enter.Goals as goal

pub loop-k-init : goal.loop-k-init
loop-k-init c = (search rules, building_none _ _ _ _ c.args.first2.now _ _ _ (omega (arith, c.requires.fits.columns)))

pub enter_column-b-requires : goal.enter_column-b-requires
enter_column-b-requires c = let p = c.requires in
    let split = c.loop-k.invariant.1.split in
    record {
      next = record { old = p.old; fits = p.fits; here = omega arith; base = omega (arith, p.fits.most); split = split };
      room = omega arith;
    }

pub overflow_cast-first2 : goal.overflow_cast-first2
overflow_cast-first2 c = omega (arith, room_left c.enter_column-b.ensures.room)

pub returns-then-g-b : goal.returns-then-g-b
returns-then-g-b c =
    let p = c.requires in
    too_many p.old p.fits (building_next c.loop-k.invariant.1 c.enter_column-b.ensures (omega arith)) (omega arith)
    c.if-g-b.true

pub loop-k-preserved : goal.loop-k-preserved
loop-k-preserved c = (search rules, building_next c.loop-k.invariant.1 c.enter_column-b.ensures (omega arith))

pub returns : goal.returns
returns c =
    let z : c.loop-k.k ≡ c.args.g.columns = omega arith in
    all_entered c.requires.old c.requires.fits (rw z at c.loop-k.invariant.1) (omega arith)
