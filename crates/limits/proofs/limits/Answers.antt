-- 3, 16 and 17, in this order. Assumes nothing.
use mathlib.Core.Path.{sym, ◌∙◌}
use Rattle.defs.specs.Computing.Words.{widthb, columnsb, limits_no}
use Rattle.limits.proofs.limits.Goals as goal

pub returns-then-not-in_range : goal.returns-then-not-in_range
unfolding limits_no widthb
returns-then-not-in_range c = rw (sym c.in_range.ensures ∙ c.if-not-in_range.true) c.refused.ensures

pub returns-then-not-resolution_fits : goal.returns-then-not-resolution_fits
unfolding limits_no widthb
returns-then-not-resolution_fits c =
    rw (
      sym c.in_range.ensures ∙ c.if-not-in_range.false,
      sym c.resolution_fits.ensures ∙ c.if-not-resolution_fits.true,
    ) c.refused-then-not-resolution_fits.ensures

pub returns-then-not-in_range-2 : goal.returns-then-not-in_range-2
unfolding limits_no widthb columnsb
returns-then-not-in_range-2 c =
    rw (
      sym c.in_range.ensures ∙ c.if-not-in_range.false,
      sym c.resolution_fits.ensures ∙ c.if-not-resolution_fits.false,
      sym c.in_range-2.ensures ∙ c.if-not-in_range-2.true,
    ) c.refused-then-not-in_range-2.ensures

pub returns : goal.returns
unfolding limits_no widthb columnsb
returns c =
    rw (
      sym c.in_range.ensures ∙ c.if-not-in_range.false,
      sym c.resolution_fits.ensures ∙ c.if-not-resolution_fits.false,
      sym c.in_range-2.ensures ∙ c.if-not-in_range-2.false,
    )
