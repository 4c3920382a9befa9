-- Question 1: the first bytes are the mark's. Assumes nothing.
use mathlib.Core.Path.{◌∙◌}
use borrow.Author.Tests.{lt-leb}
use Rattle.defs.specs.Computing.Sheets.{q1b}
use Rattle.fields.proofs.Firsts.{begun}
use Rattle.fields.proofs.begins.Goals as goal

pub returns-then-sheet-ge-FRONT_BYTES : goal.returns-then-sheet-ge-FRONT_BYTES
returns-then-sheet-ge-FRONT_BYTES c = c.starts_with.ensures.value ∙ begun _ c.if-sheet-ge-FRONT_BYTES.true

pub returns-else-sheet-ge-FRONT_BYTES : goal.returns-else-sheet-ge-FRONT_BYTES
unfolding q1b
returns-else-sheet-ge-FRONT_BYTES c = simp (lt-leb _ _ c.if-sheet-ge-FRONT_BYTES.false)
