-- The parts of the last line, one after another. Assumes nothing.
use native.Mathlib.Omega.{arith}
use lib.ListN.{length-set}
use Rattle.defs.specs.Computing.Ascii.{ascii}
use Rattle.defs.specs.Computing.Text.{line}
use Rattle.print.proofs.Puts.{put_long, long_few}
use Rattle.layoutlines.proofs.Line.{totals_put}
use Rattle.layoutlines.proofs.put_totals.Goals as goal

pub put_line-requires : goal.put_line-requires
put_line-requires c = omega (arith, c.put-a.ensures.after, c.put_long-b.ensures.after, long_few c.args.t.used, put_long c.put-a.ensures, simp length-set at (put_long c.put_long-b.ensures))

pub returns : goal.returns
unfolding ascii line
returns c = totals_put c.args.t c.put-a.ensures c.put_long-b.ensures c.put_line.ensures
