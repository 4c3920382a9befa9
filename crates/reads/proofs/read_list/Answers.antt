-- 15 by the count of words; then the list and the figures. Assumes nothing.
use mathlib.Core.Path.{refl}
use native.Mathlib.Omega.{arith}
use Rattle.reads.proofs.Outputs.{long, count_few, count_is, chain_ends, each_ends, pieces_room, step_15, step_read}
use Rattle.reads.proofs.read_list.Goals as goal

pub number-v-requires : goal.number-v-requires
number-v-requires c = omega (arith, long _ c.requires.counted.begun.one)

pub list_words-n-requires : goal.list_words-n-requires
list_words-n-requires c = record {
  fact_1 = chain_ends c.requires.counted c.number-v.ensures;
  fact_2 = each_ends c.requires;
}

pub returns-then-out-n : goal.returns-then-out-n
returns-then-out-n c = step_15 c.requires c.list_words-n.ensures c.if-out-n.true c.refused.ensures refl

pub overflow_cast-count : goal.overflow_cast-count
overflow_cast-count c = omega (arith, count_few c.requires.counted)

pub put_list-requires : goal.put_list-requires
put_list-requires c = record {
  fact_1 = pieces_room c.requires c.number-v.ensures c.list_words-n.ensures c.if-out-n.false;
  fact_2 = count_is c.requires.counted;
}

pub figures_of-requires : goal.figures_of-requires
figures_of-requires c = long _ c.requires.counted.begun.one

pub returns : goal.returns
returns c = step_read c.requires c.list_words-n.ensures c.if-out-n.false c.put_list.ensures c.figures_of.ensures
