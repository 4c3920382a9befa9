-- Questions 11 and 12 of an outline that passes 7 to 10, and its runs: they are counted first, so that nothing is written before all
-- questions are answered. Assumes nothing.
use mathlib.Core.Path.{refl}
use native.Mathlib.Omega.{arith}
use Rattle.outline.proofs.Limit.{extent_limit}
use Rattle.cover.proofs.Steps.{keeps, in_limits, gap_limit, counted, step_11, step_12, step_runs, count_fits}
use Rattle.cover.proofs.cover_runs.Goals as goal

pub put_runs-k-requires : goal.put_runs-k-requires
put_runs-k-requires c = let p = c.requires in record {
  wide = p.extent.0;
  ordered = keeps p.limits;
  limits = (in_limits p.limits, gap_limit p.limits);
}

pub returns-then-k-eq0 : goal.returns-then-k-eq0
returns-then-k-eq0 c = step_11 c.requires.limits c.put_runs-k.ensures c.if-k-eq0.true c.refused.ensures refl

pub returns-then-out-k : goal.returns-then-out-k
returns-then-out-k c = step_12 c.requires.limits c.put_runs-k.ensures c.if-k-eq0.false c.if-out-k.true c.refused-then-out-k.ensures refl

pub write_runs-requires : goal.write_runs-requires
write_runs-requires c = let p = c.requires in record {
  wide = p.extent.0;
  ordered = keeps p.limits;
  counted = counted p.limits c.put_runs-k.ensures refl (λ l. omega (arith, c.if-out-k.false));
}

pub overflow_cast-result : goal.overflow_cast-result
overflow_cast-result c =
    let o = c.args.o in
    let p = c.requires in
    let fits =
    count_fits (in_limits p.limits).least c.put_runs-k.ensures p.extent.0 p.extent.1
    (omega (arith, extent_limit o.lent _ o.framed.turn, p.extent.0)) (gap_limit p.limits) (omega arith) in
    omega arith

pub returns : goal.returns
returns c = step_runs c.requires.limits c.put_runs-k.ensures c.if-k-eq0.false (λ l. omega (arith, c.if-out-k.false)) c.write_runs.ensures
