-- Where 1, or a question of the limits, refuses, the number of words is of no matter. Assumes nothing.
use native.Mathlib.Omega.{arith}
use Rattle.lent.proofs.Strips.{strip_early_1, strip_early_limits}
use Rattle.lent.proofs.strip_words.Goals as goal

pub returns-then-sheet-lt-FRONT_BYTES : goal.returns-then-sheet-lt-FRONT_BYTES
returns-then-sheet-lt-FRONT_BYTES c = strip_early_1 _ (omega arith)

pub returns-then-columns-gt-MOST_COLUMNS : goal.returns-then-columns-gt-MOST_COLUMNS
returns-then-columns-gt-MOST_COLUMNS c = strip_early_limits _ (omega (arith, c.number-columns.ensures))
