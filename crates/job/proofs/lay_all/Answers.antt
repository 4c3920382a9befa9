-- The current table after the last piece is written. Assumes nothing.
use mathlib.Core.Path.{refl}
use native.Mathlib.Omega.{arith}
use Rattle.reads.proofs.Outputs.{long}
use Rattle.job.proofs.Strips.{job_ready, ready_first, ready_second, job_done}
use Rattle.job.proofs.lay_all.Goals as goal

pub number-v-requires : goal.number-v-requires
number-v-requires c = omega (arith, long _ c.requires.fact_1.passed.counted.begun.one)

pub lay_chain-t-requires : goal.lay_chain-t-requires
lay_chain-t-requires c = job_ready c.requires.fact_1 c.requires.fact_2 c.records_of-q.ensures c.number-v.ensures refl

pub write_strip-requires : goal.write_strip-requires
write_strip-requires c = ready_second c.requires.fact_1 c.requires.fact_2 c.records_of-q.ensures c.lay_chain-t.ensures c.if-t.true

pub write_strip-requires-else-t : goal.write_strip-requires-else-t
write_strip-requires-else-t c = ready_first c.requires.fact_1 c.requires.fact_2 c.records_of-q.ensures c.lay_chain-t.ensures c.if-t.false

pub returns-then-t : goal.returns-then-t
returns-then-t c = job_done c.requires.fact_1 c.requires.fact_2 c.records_of-q.ensures c.lay_chain-t.ensures refl (rw c.if-t.true c.write_strip.ensures)

pub returns-else-t : goal.returns-else-t
returns-else-t c = job_done c.requires.fact_1 c.requires.fact_2 c.records_of-q.ensures c.lay_chain-t.ensures refl (rw c.if-t.false c.write_strip-else-t.ensures)
