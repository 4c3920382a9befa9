-- `add_runs` meets its contract: the piece's runs a to i - 1 are joined, and there is room for one more.
-- Assumes nothing.
use native.Mathlib.Omega.{arith}
use Rattle.columnentry.proofs.Adding.{run_fits, room_left, added_more}
use borrow.Author.Rules.{rules}
use Rattle.columnentry.proofs.add_runs.Goals as goal

pub join_from-u-requires-clause-fact_2 : goal.join_from-u-requires-clause-fact_2
join_from-u-requires-clause-fact_2 c =
    let room = c.loop-i.invariant.room in
    (room.start, omega (arith, room_left room, room.lows), omega (arith, room_left room, room.highs))

pub loop-i-preserved : goal.loop-i-preserved
loop-i-preserved c =
    let fits = run_fits c.requires.fits c.loop-i.i (omega arith) in
    added_more c.loop-i.invariant (omega arith) c.join_from-u.ensures (omega arith) (search rules) (search rules) fits.4
