-- The write call: 3, 16, 17, 6, and then the pieces, in document 01's order. Assumes nothing.
use mathlib.Core.Path.{◌≡◌, refl, sym, ◌∙◌}
use borrow.Author.Rules.{rules}
use Rattle.std.specs.Prelude.{Err}
use Rattle.limits.proofs.Passing.{none_no}
use Rattle.writes.proofs.Outputs.{no_limits, no_6, refused_step}
use Rattle.writes.proofs.write.Goals as goal

pub returns-in_err-limits : goal.returns-in_err-limits
returns-in_err-limits c =
    let e : c.from_residual.result ≡ Err c.in_err-limits.field-0.0 = search rules in
    refused_step e (no_limits _ _ _ _ (sym c.in_err-limits.was ∙ c.limits.ensures)) refl

pub returns-then-not-count_fits : goal.returns-then-not-count_fits
returns-then-not-count_fits c =
    refused_step c.refused.ensures
    (no_6 _ _ _ _ (none_no _ (sym c.in_ok-limits.was ∙ c.limits.ensures)) (sym c.count_fits.ensures ∙ c.if-not-count_fits.true))
    refl

pub write_pieces-requires : goal.write_pieces-requires
write_pieces-requires c =
    record {
      limits = none_no _ (sym c.in_ok-limits.was ∙ c.limits.ensures);
      six = sym c.count_fits.ensures ∙ c.if-not-count_fits.false;
    }
