-- 3, 16, 17, 21, then 4, in document 01's order, then the empty strip. Assumes nothing.
use mathlib.Core.Path.{◌≡◌, refl, sym, ◌∙◌}
use borrow.Author.Rules.{rules}
use Rattle.std.specs.Prelude.{Err}
use Rattle.limits.proofs.Passing.{none_no}
use Rattle.open.proofs.Empty.{room_of}
use Rattle.open.proofs.Steps.{step_figures, step_4, step_opened}
use Rattle.open.proofs.open.Goals as goal

pub returns-in_err-figures : goal.returns-in_err-figures
returns-in_err-figures c =
    let e : c.from_residual.result ≡ Err c.in_err-figures.field-0.0 = search rules in
    step_figures (sym c.in_err-figures.was ∙ c.figures.ensures) e refl

pub returns-then-not-length_fits : goal.returns-then-not-length_fits
returns-then-not-length_fits c =
    step_4 (none_no _ (sym c.in_ok-figures.was ∙ c.figures.ensures))
    (sym c.length_fits.ensures ∙ c.if-not-length_fits.true) c.refused.ensures refl

pub put_empty-requires : goal.put_empty-requires
put_empty-requires c =
    room_of _ _ _ _ _ (none_no _ (sym c.in_ok-figures.was ∙ c.figures.ensures))
    (sym c.length_fits.ensures ∙ c.if-not-length_fits.false)

pub returns : goal.returns
returns c =
    step_opened (none_no _ (sym c.in_ok-figures.was ∙ c.figures.ensures))
    (sym c.length_fits.ensures ∙ c.if-not-length_fits.false) c.put_empty.ensures
