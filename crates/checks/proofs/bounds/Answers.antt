-- `bounds` meets its contract: 8 is asked of an outline that passes 7, by its bounds. Assumes nothing.
use native.Mathlib.Omega.{arith}
use mathlib.Core.Path.{sym, ◌∙◌}
use Rattle.checks.proofs.Bounded.{has_vertex, no_7, no_8, none_no}
use Rattle.checks.proofs.bounds.Goals as goal

pub returns-then-not-seven : goal.returns-then-not-seven
returns-then-not-seven c = (no_7 _ (sym c.seven.ensures ∙ c.if-not-seven.true), omega arith)

pub bounds_of-b-requires : goal.bounds_of-b-requires
bounds_of-b-requires c = has_vertex _ (sym c.seven.ensures ∙ c.if-not-seven.false)

pub eight-requires : goal.eight-requires
eight-requires c = record {
  fact_1 = sym c.seven.ensures ∙ c.if-not-seven.false;
  fact_2 = c.bounds_of-b.ensures;
}

pub returns-then-not-eight : goal.returns-then-not-eight
returns-then-not-eight c = (no_8 _ (sym c.seven.ensures ∙ c.if-not-seven.false) (sym c.eight.ensures ∙ c.if-not-eight.true), omega arith)

pub returns : goal.returns
returns c = (none_no _ (sym c.seven.ensures ∙ c.if-not-seven.false) (sym c.eight.ensures ∙ c.if-not-eight.false), c.bounds_of-b.ensures)
