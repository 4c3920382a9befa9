-- 21 after 3, 16 and 17. Assumes nothing.
use mathlib.Core.Path.{◌≡◌, sym, ◌∙◌}
use borrow.Author.Rules.{rules}
use Rattle.std.specs.Prelude.{Err}
use Rattle.limits.proofs.Passing.{first_three, no_21, none_of_four}
use Rattle.limits.proofs.figures.Goals as goal

pub returns-in_err-limits : goal.returns-in_err-limits
returns-in_err-limits c =
    let e : c.from_residual.result ≡ Err c.in_err-limits.field-0.0 = search rules in
    e ∙ first_three _ _ _ c.args.g (sym c.in_err-limits.was ∙ c.limits.ensures)

pub returns-then-not-gap_fits : goal.returns-then-not-gap_fits
returns-then-not-gap_fits c =
    rw (no_21 _ _ _ _ (sym c.in_ok-limits.was ∙ c.limits.ensures) (sym c.gap_fits.ensures ∙ c.if-not-gap_fits.true))
    c.refused.ensures

pub returns : goal.returns
returns c =
    rw (none_of_four _ _ _ _ (sym c.in_ok-limits.was ∙ c.limits.ensures) (sym c.gap_fits.ensures ∙ c.if-not-gap_fits.false))
