-- `join` is `join_from` from base 0 on.
-- Assumes nothing.
use native.Mathlib.Omega.{arith}
use Rattle.join.proofs.Bases.{based_apart, joined}
use Rattle.join.proofs.join.Goals as goal

pub join_from-requires : goal.join_from-requires
join_from-requires c = record {
  fact_1 = based_apart c.requires.fact_1;
  fact_2 = omega arith;
  fact_3 = omega arith;
}

pub returns : goal.returns
returns c = joined c.join_from.ensures
