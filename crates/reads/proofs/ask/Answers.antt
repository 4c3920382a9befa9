-- 1 to 3, 16, 17, 21, 4 and then the chain, in document 01's order. Assumes nothing.
use mathlib.Core.Path.{◌≡◌, sym, ◌∙◌}
use borrow.Author.Rules.{rules}
use Rattle.std.specs.Prelude.{Err}
use Rattle.reads.proofs.Outputs.{long, limits_are, begun_by, no_1, no_2, no_limits, no_21, no_4, four_is}
use Rattle.reads.proofs.ask.Goals as goal

pub returns-then-not-begins : goal.returns-then-not-begins
returns-then-not-begins c = rw c.refused.ensures (no_1 _ _ (sym c.begins.ensures ∙ c.if-not-begins.true))

pub fits-requires : goal.fits-requires
fits-requires c = long _ (sym c.begins.ensures ∙ c.if-not-begins.false)

pub returns-then-not-fits : goal.returns-then-not-fits
returns-then-not-fits c = rw c.refused-then-not-fits.ensures (no_2 _ _ (sym c.begins.ensures ∙ c.if-not-begins.false) (sym c.fits.ensures ∙ c.if-not-fits.true))

pub figures_of-f-requires : goal.figures_of-f-requires
figures_of-f-requires c = long _ (sym c.begins.ensures ∙ c.if-not-begins.false)

pub returns-in_err-limits : goal.returns-in_err-limits
returns-in_err-limits c =
    let e : c.from_residual.result ≡ Err c.in_err-limits.field-0.0 = search rules in
    rw e (no_limits _ _ (sym c.begins.ensures ∙ c.if-not-begins.false) (sym c.fits.ensures ∙ c.if-not-fits.false) (limits_are c.args.sheet.now _ c.figures_of-f.ensures (sym c.in_err-limits.was ∙ c.limits.ensures)))

pub returns-then-not-gap_asked : goal.returns-then-not-gap_asked
returns-then-not-gap_asked c = rw c.refused-then-not-gap_asked.ensures (no_21 _ (begun_by c.args.sheet.now (sym c.begins.ensures ∙ c.if-not-begins.false) (sym c.fits.ensures ∙ c.if-not-fits.false) c.figures_of-f.ensures (sym c.in_ok-limits.was ∙ c.limits.ensures)) (sym c.gap_asked.ensures ∙ c.if-not-gap_asked.true))

pub returns-then-not-fourth : goal.returns-then-not-fourth
returns-then-not-fourth c = rw c.refused-then-not-fourth.ensures (no_4 (begun_by c.args.sheet.now (sym c.begins.ensures ∙ c.if-not-begins.false) (sym c.fits.ensures ∙ c.if-not-fits.false) c.figures_of-f.ensures (sym c.in_ok-limits.was ∙ c.limits.ensures)) (sym c.gap_asked.ensures ∙ c.if-not-gap_asked.false) (four_is c.args.sheet.now c.args.strip c.figures_of-f.ensures c.fourth.ensures c.if-not-fourth.true))

pub ask_chain-requires : goal.ask_chain-requires
ask_chain-requires c = begun_by c.args.sheet.now (sym c.begins.ensures ∙ c.if-not-begins.false) (sym c.fits.ensures ∙ c.if-not-fits.false) c.figures_of-f.ensures (sym c.in_ok-limits.was ∙ c.limits.ensures)

pub returns : goal.returns
returns c = rw (sym c.gap_asked.ensures ∙ c.if-not-gap_asked.false, four_is c.args.sheet.now c.args.strip c.figures_of-f.ensures c.fourth.ensures c.if-not-fourth.false) c.ask_chain.ensures
