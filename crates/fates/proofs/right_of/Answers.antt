-- The right edge by the extent of the turn. Assumes nothing.
use mathlib.Core.Path.{sym, ap, ◌∙◌}
use native.Mathlib.Omega.{arith}
use Rattle.fates.specs.Fates.{edge_of}
use Rattle.fates.proofs.Edges.{edge_is}
use Rattle.fates.proofs.right_of.Goals as goal

pub extent_of-e-requires : goal.extent_of-e-requires
extent_of-e-requires c = let p = c.requires in record {
  fact_1 = omega (arith, p.fact_1.some);
  fact_2 = p.fact_2;
  fact_3 = p.fact_3 _ c.in-Ok.is;
}

pub returns-in-Ok : goal.returns-in-Ok
returns-in-Ok c = edge_is c.args.o.now c.args.r c.in-Ok.p c.extent_of-e.ensures.0 c.right_edge.ensures ∙ ap (edge_of _ _) (sym c.in-Ok.is)
