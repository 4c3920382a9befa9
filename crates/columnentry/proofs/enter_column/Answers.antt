-- `enter_column` meets its contract: the copied runs have room for the joins, since a column has few runs.
-- Assumes nothing.
use native.Mathlib.Omega.{arith}
use Rattle.columnentry.proofs.Columns.{split_rise, old_column, room_copied, column_done}
use Rattle.columnentry.proofs.enter_column.Goals as goal

pub copy_words-requires : goal.copy_words-requires
copy_words-requires c = omega (arith, old_column c.requires.next)

pub copy_words-requires-2 : goal.copy_words-requires-2
copy_words-requires-2 c = omega (arith, old_column c.requires.next)

pub add_runs-t-requires-clause-room : goal.add_runs-t-requires-clause-room
add_runs-t-requires-clause-room c =
    room_copied c.requires.next c.copy_words.ensures c.copy_words-2.ensures (omega arith) (omega arith)

pub add_runs-t-requires-clause-some : goal.add_runs-t-requires-clause-some
add_runs-t-requires-clause-some c =
    let e = c.column_end-e.ensures in (split_rise c.requires.next.split e, e.among)

pub returns : goal.returns
returns c =
    column_done c.requires.next c.copy_words.ensures c.copy_words-2.ensures c.column_end-e.ensures
    c.add_runs-t.ensures
