-- The table's last word is the number of its runs. Assumes nothing.
use native.Mathlib.Omega.{arith}
use Rattle.job.proofs.Strips.{firsts, few, flat, room, strip_left}
use Rattle.job.proofs.write_strip.Goals as goal

pub bounds-first-g : goal.bounds-first-g
bounds-first-g c = firsts c.requires

pub overflow_cast-n-2 : goal.overflow_cast-n-2
overflow_cast-n-2 c = omega (arith, few c.requires)

pub encode-requires : goal.encode-requires
encode-requires c = record {
  fact_1 = flat c.requires;
  fact_2 = room c.requires;
}

pub returns : goal.returns
returns c = strip_left c.requires c.encode.ensures
