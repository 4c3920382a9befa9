-- `try_run` meets its contract: the first run that ends above the lowest row is the lowest that can meet the rows, and where it begins
-- above them, it and all later ones do so until the rows are raised to it.
-- Assumes nothing.
use native.Mathlib.Omega.{arith}
use Rattle.tries.proofs.Tries.{clear_to, lands}
use Rattle.tries.proofs.try_run.Goals as goal

pub returns-then-e-i : goal.returns-then-e-i
returns-then-e-i c = clear_to c.requires.column c.pass-i.ensures (omega arith) (omega arith) (λ l. absurd (omega arith))

pub returns-then-lows-i : goal.returns-then-lows-i
returns-then-lows-i c = lands c.requires.column c.pass-i.ensures (omega arith) c.if-lows-i.true (omega (arith, c.pass-i.ensures.found (omega arith)))

pub returns-else-lows-i : goal.returns-else-lows-i
returns-else-lows-i c = clear_to c.requires.column c.pass-i.ensures (omega arith) (omega arith) (λ _. omega arith)
