-- 2 and 15 by the size; then the sheet. Assumes nothing.
use mathlib.Core.Path.{refl}
use native.Mathlib.Omega.{arith}
use Rattle.writes.proofs.Outputs.{count_word, count_few, sheet_fits, step_2, step_15, step_written}
use Rattle.writes.proofs.write_sheet.Goals as goal

pub bounds-list-0 : goal.bounds-list-0
bounds-list-0 c = omega (arith, count_word c.requires.begun)

pub overflow_cast-size : goal.overflow_cast-size
overflow_cast-size c = omega (arith, c.type_inv.list 0)

pub overflow_add-size : goal.overflow_add-size
overflow_add-size c = omega (arith, c.requires.none_no.few, count_few c.requires.begun)

pub overflow_mul-size : goal.overflow_mul-size
overflow_mul-size c = omega (arith, c.requires.none_no.few, count_few c.requires.begun)

pub overflow_add-size-2 : goal.overflow_add-size-2
overflow_add-size-2 c = omega (arith, c.requires.none_no.few, count_few c.requires.begun)

pub returns-then-size-gt-MOST_BYTES : goal.returns-then-size-gt-MOST_BYTES
returns-then-size-gt-MOST_BYTES c = step_2 c.requires refl c.if-size-gt-MOST_BYTES.true c.refused.ensures refl

pub returns-then-out-size : goal.returns-then-out-size
returns-then-out-size c = step_15 c.requires refl c.if-size-gt-MOST_BYTES.false c.if-out-size.true c.refused-then-out-size.ensures refl

pub put_sheet-requires : goal.put_sheet-requires
put_sheet-requires c = sheet_fits c.requires c.if-out-size.false

pub returns : goal.returns
returns c = step_written c.requires refl c.if-size-gt-MOST_BYTES.false c.if-out-size.false c.put_sheet.ensures
