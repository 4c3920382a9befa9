-- `keeps_order` meets its contract: no pair of edges before i changes order, and u is vertex i, while there is one. Assumes nothing.
use native.Mathlib.Omega.{arith}
use mathlib.Core.Path.{sym, ◌∙◌}
use Rattle.outline.proofs.Vertices.{side_between, vertex_after}
use Rattle.checks.proofs.Pairs.{no_pair, pairs_more, pairs_hit, pairs_end, pair_fails, small_of}
use Rattle.checks.proofs.keeps_order.Goals as goal

pub loop-i-init : goal.loop-i-init
loop-i-init c = record { none = no_pair _; here = λ l. c.vertex-u.ensures }

pub row-requires-clause-small : goal.row-requires-clause-small
row-requires-clause-small c = small_of (side_between c.next.ensures.0 (c.loop-i.invariant.here (omega arith)) c.vertex-v.ensures c.side_of-e.ensures)

pub returns-then-row : goal.returns-then-row
returns-then-row c =
    let e = side_between c.next.ensures.0 (c.loop-i.invariant.here (omega arith)) c.vertex-v.ensures c.side_of-e.ensures in
    sym (pair_fails _ _ (pairs_hit _ _ _ _ (omega arith) e (sym c.row.ensures ∙ c.if-row.true)))

pub loop-i-preserved : goal.loop-i-preserved
loop-i-preserved c =
    let e = side_between c.next.ensures.0 (c.loop-i.invariant.here (omega arith)) c.vertex-v.ensures c.side_of-e.ensures in
    record {
      none = pairs_more _ _ _ c.loop-i.invariant.none e (sym c.row.ensures ∙ c.if-row.false);
      here = vertex_after _ _ c.next.ensures.0 c.vertex-v.ensures;
    }

pub returns : goal.returns
returns c = pairs_end _ _ c.loop-i.invariant.none (omega arith)
