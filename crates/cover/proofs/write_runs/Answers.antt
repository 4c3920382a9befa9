-- The runs are worked out into the output, or copied from where they were kept. Assumes nothing.
use mathlib.Core.Path.{ap, sym, ◌∙◌}
use Prim.Native.Nat.{◌*◌}
use native.Mathlib.Omega.{arith}
use lib.Seq.{sets, length-take-le}
use Rattle.cover.proofs.write_runs.Goals as goal

pub returns-then-k-gt-KEPT_RUNS : goal.returns-then-k-gt-KEPT_RUNS
returns-then-k-gt-KEPT_RUNS c =
    c.put_runs.ensures.written
    (omega (arith, c.requires.counted.fits, c.requires.counted.count, c.put_runs.ensures.count))

pub slice_bounds-copy_in-end : goal.slice_bounds-copy_in-end
slice_bounds-copy_in-end c = sym (length-take-le _ _ (omega (arith, c.requires.counted.kept_long, c.if-k-gt-KEPT_RUNS.false)))

pub copy_in-requires : goal.copy_in-requires
copy_in-requires c = omega (arith, length-take-le (3 * c.args.k) c.args.kept.now (omega (arith, c.requires.counted.kept_long, c.if-k-gt-KEPT_RUNS.false)), c.requires.counted.fits)

pub returns : goal.returns
returns c =
    c.copy_in.ensures ∙ ap (sets _ 0) (c.requires.counted.kept_runs (omega (arith, c.if-k-gt-KEPT_RUNS.false)))
