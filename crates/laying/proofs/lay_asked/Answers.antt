-- 15, and then the job. Assumes nothing.
use native.Mathlib.Omega.{arith}
use Rattle.reads.proofs.Outputs.{count_few}
use Rattle.laying.proofs.Tops.{lay_15, job_passed, lay_laid}
use Rattle.laying.proofs.lay_asked.Goals as goal

pub overflow_mul-count : goal.overflow_mul-count
overflow_mul-count c = omega (arith, count_few c.requires.passed.counted)

pub returns-then-out-count : goal.returns-then-out-count
returns-then-out-count c = lay_15 _ c.args.strip.now c.requires c.if-out-count.true c.refused.ensures

pub lay_tables-requires : goal.lay_tables-requires
lay_tables-requires c = job_passed _ c.args.strip.now c.requires c.if-out-count.false

pub returns : goal.returns
returns c = lay_laid _ c.args.strip.now c.requires c.if-out-count.false c.lay_tables.ensures
