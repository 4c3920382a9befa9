-- A NaN's patterns are taken apart by their 31 bits without the sign. Assumes nothing.
use Rattle.std.proofs.Common.{sym, ◌∙◌}
use Rattle.millimetres.proofs.Patterns.{nan_above, no_nan, zero_by_zero}
use Rattle.millimetres.proofs.float_of.Goals as goal

pub returns-then-magnitude-gt2139095040 : goal.returns-then-magnitude-gt2139095040
returns-then-magnitude-gt2139095040 c = zero_by_zero ∙ sym (nan_above c.args.bits c.if-magnitude-gt2139095040.true)

pub float_from_bits-result : goal.float_from_bits-result
float_from_bits-result c = no_nan c.args.bits c.if-magnitude-gt2139095040.false
