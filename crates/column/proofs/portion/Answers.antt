-- `portion` meets its contract: it joins the rows of a part of a slab to the runs.
-- The heights that `part` writes are those of the edges at x0 and x1, and the gaps between them are the rows; for the whole slab the
-- heights are at hand. Assumes nothing.
use native.Mathlib.Omega.{arith}
use Rattle.column.proofs.Parts.{part_all_fit, part_adds, whole_adds}
use Rattle.column.proofs.portion.Goals as goal

pub returns-then-x1-s : goal.returns-then-x1-s
returns-then-x1-s c = whole_adds c.if-s-x0.true c.if-x1-s.true c.gaps.ensures

pub gaps-requires-2 : goal.gaps-requires-2
gaps-requires-2 c = record {
  fact_1 = part_all_fit c.part.ensures (omega (arith, c.from-l.ensures, c.from-d0.ensures, c.requires.fact_2)) (omega (arith, c.from-l.ensures, c.from-d1.ensures, c.requires.fact_2)) c.requires.fact_1 (omega (arith, c.requires.fact_3.0)) (omega (arith, c.requires.fact_3.1));
  fact_2 = c.requires.fact_4;
}

pub returns : goal.returns
returns c =
    part_adds c.part.ensures (omega (arith, c.from-l.ensures, c.from-d0.ensures, c.requires.fact_2)) (omega (arith, c.from-l.ensures, c.from-d1.ensures, c.requires.fact_2))
    (omega (arith, c.from-l.ensures, c.requires.fact_2)) (omega (arith, c.from-d0.ensures, c.requires.fact_2)) (omega (arith, c.from-d1.ensures, c.requires.fact_2))
    (omega (arith, c.from-l.ensures, c.from-d0.ensures, c.requires.fact_2)) c.gaps-2.ensures
