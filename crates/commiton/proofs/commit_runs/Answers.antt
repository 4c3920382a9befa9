-- The questions are asked in their order, and each "no" ends them. Assumes nothing.
use mathlib.Core.Path.{sym, ◌∙◌}
use native.Mathlib.Omega.{arith}
use borrow.Author.Rules.{rules}
use Rattle.best.proofs.Turns.{put_kept}
use Rattle.commiton.proofs.Answers.{lent, turn_most, keeps, eleven, twelve, eighteen, fourteen, frame, tested, enterable, refused_on, entered_on}
use Rattle.commiton.proofs.commit_runs.Goals as goal

pub extent_of-e-requires : goal.extent_of-e-requires
extent_of-e-requires c = let pre = c.requires in
    record {
      fact_1 = omega (arith, (lent pre.passes).some);
      fact_2 = pre.bounds;
      fact_3 = turn_most pre.passes;
    }

pub put_turn-k-requires : goal.put_turn-k-requires
put_turn-k-requires c = let pre = c.requires in record {
  fact_1 = lent pre.passes;
  fact_2 = pre.bounds;
  fact_3 = (turn_most pre.passes, c.extent_of-e.ensures.0);
  fact_4 = keeps pre.passes;
  fact_5 = (record { least = c.args.board.resolution.0; most = c.args.board.resolution.1 }, c.args.board.limits.0);
}

pub returns-then-k-eq0 : goal.returns-then-k-eq0
returns-then-k-eq0 c =
    let pre = c.requires in
    refused_on c.refused.ensures
    (eleven _ _ _ _ _ _ _ _ _ pre.passes.none_no c.args.board.resolution.0
    (sym c.put_turn-k.ensures.count ∙ c.if-k-eq0.true))

pub returns-then-work-k : goal.returns-then-work-k
returns-then-work-k c =
    let pre = c.requires in
    let put = c.put_turn-k.ensures in
    refused_on c.refused-then-work-k.ensures
    (twelve _ _ _ _ _ _ _ _ _ pre.passes.none_no c.args.board.resolution.0
    (omega (arith, put.count, c.if-k-eq0.false))
    (omega (arith, put.count, put.long, c.if-work-k.true)))

pub columns_for-requires : goal.columns_for-requires
columns_for-requires c = c.args.board.resolution.0

pub invariant_of-s : goal.invariant_of-s
invariant_of-s c = let pre = c.requires in
    let bounds = pre.bounds in
    let put = c.put_turn-k.ensures in
    let room = c.if-work-k.false in
    let extent = c.extent_of-e.ensures in
    let columns = c.columns_for.ensures in record {
      framed = frame c.args.p
          c.args.board.limits.0 c.args.board.table pre.passes bounds put room extent.0 columns extent.1;
      low = c.args.board.limits.1;
    }

pub returns-then-not-fits_at : goal.returns-then-not-fits_at
returns-then-not-fits_at c =
    let pre = c.requires in
    let bounds = pre.bounds in
    let put = c.put_turn-k.ensures in
    let room = c.if-work-k.false in
    let extent = c.extent_of-e.ensures in
    let columns = c.columns_for.ensures in
    let free = tested c.args.p
    c.args.board.limits.0 c.args.board.table pre.passes bounds put room extent.0 columns extent.1
    c.fits_at.ensures in
    refused_on c.refused-then-not-fits_at.ensures
    (eighteen _ _ _ _ _ _ _ _ _ pre.passes.none_no c.args.board.resolution.0
    (omega (arith, put.count, c.if-k-eq0.false))
    (omega (arith, put.count, put.long, room))
    (sym free ∙ c.if-not-fits_at.true))

pub enter_at-requires : goal.enter_at-requires
enter_at-requires c = let pre = c.requires in
    let bounds = pre.bounds in
    let put = c.put_turn-k.ensures in
    let room = c.if-work-k.false in
    let extent = c.extent_of-e.ensures in
    let columns = c.columns_for.ensures in record {
      room = pre.room;
      at = enterable c.args.p
          c.args.board.limits.0 c.args.board.table pre.passes bounds put room extent.0 columns extent.1
          c.fits_at.ensures
          c.if-not-fits_at.false (search rules);
      kept = put_kept put;
    }

pub returns : goal.returns
returns c =
    let pre = c.requires in
    let bounds = pre.bounds in
    let put = c.put_turn-k.ensures in
    let room = c.if-work-k.false in
    let extent = c.extent_of-e.ensures in
    let columns = c.columns_for.ensures in
    let free = tested c.args.p
    c.args.board.limits.0 c.args.board.table pre.passes bounds put room extent.0 columns extent.1
    c.fits_at.ensures in
    entered_on c.enter_at.ensures
    (fourteen _ _ _ _ _ _ _ _ _ pre.passes.none_no c.args.board.resolution.0
    (omega (arith, put.count, c.if-k-eq0.false))
    (omega (arith, put.count, put.long, room))
    (sym free ∙ c.if-not-fits_at.false))
