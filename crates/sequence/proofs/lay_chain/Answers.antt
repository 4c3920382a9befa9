-- The pieces still to come, on top of those that are laid, give the whole. Assumes nothing.
use mathlib.Core.Path.{◌∙◌}
use native.Mathlib.Omega.{arith}
use lib.ListN.{length}
use Rattle.sequence.proofs.Going.{going_start, going_here, going_last, going_passes, going_few, going_room, going_next, going_end}
use Rattle.sequence.proofs.Copied.{copy_starts}
use borrow.Author.Rules.{rules}
use Rattle.sequence.proofs.lay_chain.Goals as goal

pub number-last-requires : goal.number-last-requires
number-last-requires c = omega (arith, c.requires.chain.in_sheet)

pub of-at-items-requires : goal.of-at-items-requires
of-at-items-requires c = c.requires.chain

pub start_of-lower-requires : goal.start_of-lower-requires
start_of-lower-requires c = record {
  fact_1 = going_last c.loop-at.invariant.0 c.in-Some.ensures.steps;
  fact_2 = going_here c.loop-at.invariant.0 c.in-Some.ensures.steps;
}

pub lay_piece-t-requires : goal.lay_piece-t-requires
lay_piece-t-requires c = record {
  fact_1 = going_here c.loop-at.invariant.0 c.in-Some.ensures.steps;
  fact_2 = going_passes c.loop-at.invariant.0 c.in-Some.ensures.steps;
  fact_3 = c.loop-at.invariant.0.boards;
  fact_4 = (going_few c.loop-at.invariant.0 c.in-Some.ensures.steps, going_room c.loop-at.invariant.0 c.in-Some.ensures.steps);
  fact_5 = copy_starts c.loop-at.invariant.0.copies c.start_of-lower.ensures;
}

pub shape_of-out : goal.shape_of-out
shape_of-out c = c.loop-at.invariant.0.same

pub returns : goal.returns
returns c = going_end c.loop-at.invariant.0 c.in-None.ensures.steps

pub loop-at-init : goal.loop-at-init
loop-at-init c = (
  rw c.into_iter-at-iterator.ensures.into_iter_gives (going_start (length c.args.work.now) c.requires c.of-at-items.ensures c.number-last.ensures),
  search rules,
  search rules,
  search rules,
  search rules,
  search rules,
  search rules,
  search rules,
)

pub loop-at-preserved : goal.loop-at-preserved
loop-at-preserved c = (
  going_next c.loop-at.invariant.0 c.in-Some.ensures.steps (rw c.loop-at.invariant.7 at c.lay_piece-t.ensures),
  c.first-1.given ∙ c.loop-at.invariant.1,
  c.lows-1.given ∙ c.loop-at.invariant.2,
  c.highs-1.given ∙ c.loop-at.invariant.3,
  c.first2-1.given ∙ c.loop-at.invariant.4,
  c.lows2-1.given ∙ c.loop-at.invariant.5,
  c.highs2-1.given ∙ c.loop-at.invariant.6,
  c.work-1.given ∙ c.loop-at.invariant.7,
)
