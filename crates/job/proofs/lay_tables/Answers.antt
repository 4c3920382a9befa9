-- Tables of zeros are empty. Assumes nothing.
use Rattle.reads.proofs.Outputs.{long}
use Rattle.job.proofs.Strips.{fresh}
use borrow.Author.Rules.{rules}
use Rattle.job.proofs.lay_tables.Goals as goal

pub figures_of-g-requires : goal.figures_of-g-requires
figures_of-g-requires c = long _ c.requires.passed.counted.begun.one

pub lay_all-requires : goal.lay_all-requires
lay_all-requires c = record {
  fact_1 = c.requires;
  fact_2 = fresh 4097 _ _ _ _ _ c.requires c.figures_of-g.ensures (search rules) (search rules) (search rules) (record { firsts = search rules; lows = search rules; highs = search rules });
}

pub returns : goal.returns
returns c = c.lay_all.ensures
