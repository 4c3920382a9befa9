-- Equal numbers have equal words, each less than 65536. Assumes nothing.
use Prim.Native.Nat.{◌+◌, ◌*◌}
use native.Mathlib.Omega.{arith}
use borrow.Author.Tests.{eqb-true, eq-eqb}
use Rattle.striprecords.proofs.leads_on.Goals as goal

pub returns : goal.returns
returns c =
    let column = c.word_of-column.result in
    let low = c.word_of-low.result in
    let high = c.word_of-high.result in
    let next = c.word_of-next.result in
    let args = c.args in (
      λ e.
          record {
            free =
                record {
                  column = omega (arith, eqb-true, e);
                  low = omega (arith, eqb-true, e);
                  high = omega (arith, eqb-true, e);
                };
            next = omega (arith, eqb-true, e);
          },
      λ d.
          eq-eqb (column + 65536 * (low + 65536 * (high + 65536 * next)))
          (args.g.columns + 65536 * (65536 * (65536 * (args.r + 1))))
          (omega (arith, d.free.column, d.free.low, d.free.high, d.next)),
    )
