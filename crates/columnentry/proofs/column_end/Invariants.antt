-- `column_end` meets its contract: the piece's runs before run e are in columns up to k.
-- Assumes nothing.
use Prim.Native.Nat.{ℕ, ◌+◌, ◌≤◌, ◌<◌}
use Rattle.tables.specs.Piece.{run_column}
use Rattle.columnentry.proofs.column_end.Given as goal

abbrev pub invariant-loop-e : goal.invariant-loop-e
invariant-loop-e l = (m : ℕ) → m < l.e → l.g.column + run_column l.runs m ≤ l.k
