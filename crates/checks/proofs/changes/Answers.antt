-- `changes` meets its contract: where one edge is nowhere above the other, the two do not change order. Assumes nothing.
use mathlib.Core.Path.{ap, ◌∙◌}
use Rattle.slabs.specs.Change.{changesb}
use Rattle.checks.proofs.Levels.{not_beside, edge_read}
use Rattle.checks.proofs.Pairs.{small_of}
use Rattle.checks.proofs.changes.Goals as goal

pub swaps-requires-clause-fact_2 : goal.swaps-requires-clause-fact_2
swaps-requires-clause-fact_2 c =
    let o = c.args.o in
    let p = c.requires in
    let n = p.ends in
    small_of (edge_read p.small p.heights.0 p.heights.1 _ o.lent o.framed n.0 n.1 n.2 c.x-u.ensures c.x-v.ensures c.side_of.ensures)

pub returns-then-beside : goal.returns-then-beside
returns-then-beside c =
    let o = c.args.o in
    let p = c.requires in
    let n = p.ends in
    c.swaps.ensures ∙ ap (changesb _) (edge_read p.small p.heights.0 p.heights.1 _ o.lent o.framed n.0 n.1 n.2 c.x-u.ensures c.x-v.ensures c.side_of.ensures).is

pub returns : goal.returns
returns c =
    let o = c.args.o in
    let p = c.requires in
    let n = p.ends in
    not_beside p.small p.heights.0 p.heights.1 _ o.lent o.framed n.0 n.1 n.2 (c.beside.ensures c.if-beside.false)
