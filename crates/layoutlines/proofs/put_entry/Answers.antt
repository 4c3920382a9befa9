-- The ordinal, and what follows it. Assumes nothing.
use native.Mathlib.Omega.{arith}
use Rattle.defs.specs.Computing.Ascii.{ascii}
use Rattle.defs.specs.Computing.Text.{line, entry_line}
use Rattle.print.proofs.Puts.{then, decimal_few}
use Rattle.layoutlines.proofs.put_entry.Goals as goal

pub put_line-requires : goal.put_line-requires
put_line-requires c = omega (arith, c.put_decimal-a.ensures.after, decimal_few c.args.e.ordinal)

pub put_line-requires-in-Refused : goal.put_line-requires-in-Refused
put_line-requires-in-Refused c = omega (arith, c.put_decimal-a.ensures.after, decimal_few c.args.e.ordinal)

pub returns-in-Placed : goal.returns-in-Placed
unfolding entry_line ascii line
returns-in-Placed c = rw c.in-Placed.is (then c.put_decimal-a.ensures c.put_line.ensures)

pub returns-in-Refused : goal.returns-in-Refused
unfolding entry_line ascii line
returns-in-Refused c = rw c.in-Refused.is (then c.put_decimal-a.ensures c.put_line-in-Refused.ensures)
