-- The cover call: 16 and 21, then 7 to 10, then 11, 12 and the runs, in document 01's order. Assumes nothing.
use mathlib.Core.Path.{refl, sym, ◌∙◌}
use Rattle.cover.proofs.Answers.{cover_16, cover_21, cover_no}
use Rattle.cover.proofs.Steps.{vertices, turn_limit, refused_step, lent_at}
use Rattle.cover.proofs.cover.Goals as goal

pub returns-then-not-resolution_fits : goal.returns-then-not-resolution_fits
returns-then-not-resolution_fits c = refused_step c.refused.ensures (cover_16 _ _ _ _ _ (sym c.resolution_fits.ensures ∙ c.if-not-resolution_fits.true)) refl

pub returns-then-not-gap_fits : goal.returns-then-not-gap_fits
returns-then-not-gap_fits c = refused_step c.refused-then-not-gap_fits.ensures (cover_21 _ _ _ _ _ (sym c.resolution_fits.ensures ∙ c.if-not-resolution_fits.false) (sym c.gap_fits.ensures ∙ c.if-not-gap_fits.true)) refl

pub extent_of-e-requires-clause-fact_1 : goal.extent_of-e-requires-clause-fact_1
extent_of-e-requires-clause-fact_1 c = let p = rw c.in-Ok.is at c.order.ensures in vertices _ _ p.0

pub extent_of-e-requires-clause-fact_3 : goal.extent_of-e-requires-clause-fact_3
extent_of-e-requires-clause-fact_3 c = let p = rw c.in-Ok.is at c.order.ensures in turn_limit _ _ p.0

pub new-requires-clause-lent : goal.new-requires-clause-lent
new-requires-clause-lent c = let p = rw c.in-Ok.is at c.order.ensures in lent_at _ _ p.0

pub new-requires-clause-turn : goal.new-requires-clause-turn
new-requires-clause-turn c = let p = rw c.in-Ok.is at c.order.ensures in turn_limit _ _ p.0

pub returns-in-Err : goal.returns-in-Err
returns-in-Err c = let p = rw c.in-Err.is at c.order.ensures in refused_step c.refused-in-Err.ensures (cover_no _ _ _ _ _ (sym c.resolution_fits.ensures ∙ c.if-not-resolution_fits.false) (sym c.gap_fits.ensures ∙ c.if-not-gap_fits.false) p.0 p.1) refl
