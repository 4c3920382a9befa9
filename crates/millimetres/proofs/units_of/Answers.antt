-- Each way out by what its tests say; where x is above 0 and up to 2,000, eight times x is exact. Assumes nothing.
use Rattle.std.proofs.Common.{◌≡◌, T, true, sym, subst}
use lib.Ieee.{Float, binary32, fits}
use Rattle.millimetres.proofs.Scaled.{zero_is, small, negative_is, large_is, eightfold, in_range, counted, broken_is, castable, cast_is}
use Rattle.millimetres.proofs.units_of.Goals as goal

-- what owning an `f32` tells: the format holds it
held : (x : Float) → fits binary32 x ≡ true → T (fits binary32 x)
held x e = subst T (sym e) tt

pub returns-then-x : goal.returns-then-x
returns-then-x c = sym (zero_is c.args.x c.if-x.true)

pub returns-then-not-x : goal.returns-then-not-x
returns-then-not-x c = sym (negative_is _ c.if-x.false c.if-not-x.true)

pub returns-then-not-x-2 : goal.returns-then-not-x-2
returns-then-not-x-2 c = sym (large_is c.args.x c.if-not-x.false c.if-not-x-2.true)

pub truncating_f32_to_u64-whole-requires : goal.truncating_f32_to_u64-whole-requires
truncating_f32_to_u64-whole-requires c =
    let both = in_range (eightfold _ (small _ (held c.args.x c.before.before.before.well_formed.0.1) c.if-not-x.false c.if-not-x-2.false)) in
    record { lower_bound = both.0; upper_bound = both.1 }

pub int_to_float-whole : goal.int_to_float-whole
int_to_float-whole c = counted (eightfold _ (small _ (held c.args.x c.before.before.before.before.before.well_formed.0.1) c.if-not-x.false c.if-not-x-2.false)) c.truncating_f32_to_u64-whole.ensures

pub returns-then-whole-e : goal.returns-then-whole-e
returns-then-whole-e c = broken_is (eightfold _ (small _ (held c.args.x c.before.before.before.before.before.before.well_formed.0.1) c.if-not-x.false c.if-not-x-2.false)) c.truncating_f32_to_u64-whole.ensures c.if-whole-e.true

pub float_to_int-result : goal.float_to_int-result
float_to_int-result c = castable (eightfold _ (small _ (held c.args.x c.before.before.before.before.before.before.before.well_formed.0.1) c.if-not-x.false c.if-not-x-2.false)) c.truncating_f32_to_u64-whole.ensures c.if-whole-e.false

pub returns : goal.returns
returns c = cast_is (eightfold _ (small _ (held c.args.x c.before.before.before.before.before.before.before.well_formed.0.1) c.if-not-x.false c.if-not-x-2.false)) c.truncating_f32_to_u64-whole.ensures c.if-whole-e.false
