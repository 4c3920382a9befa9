-- `opens` meets its contract: the slab that reaches over x = 0 is loaded, and a row is open between its two lowest edges.
-- Assumes nothing.
use native.Mathlib.Omega.{arith}
use Rattle.column.proofs.Columns.{held_fit}
use Rattle.inside.proofs.FirstSlab.{new_stock, apart_cell}
use Rattle.inside.proofs.opens.Goals as goal

pub held-s-requires-clause-stock : goal.held-s-requires-clause-stock
held-s-requires-clause-stock c = let p = c.requires in new_stock _ p.room.0 p.room.1 p.room.2 c.none.ensures.1 c.none.ensures.3

pub apart-requires : goal.apart-requires
apart-requires c = let p = c.requires in held_fit _ _ c.args.o.lent c.held-s.ensures (omega (arith, p.room)) (omega (arith, p.room)) (omega (arith, p.room))

pub returns : goal.returns
returns c = λ e. let p = c.requires in apart_cell _ _ c.args.o.lent p.ordered c.held-s.ensures (c.apart.ensures e)
