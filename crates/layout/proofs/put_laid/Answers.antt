-- The first line, the entries, the last line. Assumes nothing.
use native.Mathlib.Omega.{arith}
use Rattle.defs.specs.Computing.Ascii.{ascii}
use Rattle.defs.specs.Computing.Text.{line}
use Rattle.layout.specs.Lines.{laid_lines}
use Rattle.print.proofs.Puts.{then, put_long}
use Rattle.layout.proofs.Lines.{strip_few, lines_few}
use Rattle.layout.proofs.put_laid.Goals as goal

pub put_entries-b-requires : goal.put_entries-b-requires
unfolding ascii line
put_entries-b-requires c = record { few = c.requires.few; words = c.requires.words; room = omega (arith, c.requires.few, c.requires.room, put_long c.put_line-a.ensures, c.put_line-a.ensures.after, strip_few c.args.f.width c.args.f.resolution c.args.f.columns) }

pub put_totals-requires : goal.put_totals-requires
unfolding ascii line
put_totals-requires c = omega (arith, c.requires.few, c.requires.room, put_long c.put_line-a.ensures, put_long c.put_entries-b.ensures, c.put_line-a.ensures.after, c.put_entries-b.ensures.after, lines_few c.args.words.now 0 c.args.count, strip_few c.args.f.width c.args.f.resolution c.args.f.columns)

pub returns : goal.returns
unfolding laid_lines ascii line
returns c = then c.put_line-a.ensures (then c.put_entries-b.ensures c.put_totals.ensures)
