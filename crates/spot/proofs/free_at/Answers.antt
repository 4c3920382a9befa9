-- Each run before the last column is tried at its place; the first that meets an occupied run ends it. Assumes nothing.
use native.Mathlib.Omega.{arith}
use Rattle.spot.proofs.Runs.{clear_none, clear_more, all_clear, met}
use Rattle.walk.proofs.Jumps.{run_column_lem}
use Rattle.spot.proofs.free_at.Goals as goal

pub loop-k-init : goal.loop-k-init
loop-k-init c = clear_none _ _ _ _ _ _ _ _

pub overflow_add-col : goal.overflow_add-col
overflow_add-col c = omega (arith, c.runs_before-k-end.ensures.inside c.loop-k.k (omega arith))

pub try_run-requires : goal.try_run-requires
try_run-requires c =
    let fr = c.args.s.framed in
    let k = c.loop-k.k in
    let b = c.runs_before-k-end.ensures in
    record {
      column = run_column_lem fr _ (omega (arith, c.requires)) b (omega arith);
      run = (
        fr.some k (omega (arith, b.few)),
        omega (arith, fr.tall k (omega (arith, b.few)), c.requires, c.args.s.low),
        omega arith,
      );
    }

pub loop-k-preserved : goal.loop-k-preserved
loop-k-preserved c = clear_more c.loop-k.invariant (omega arith) (rw c.in_default.is at c.try_run.ensures)

pub returns-in-Jump : goal.returns-in-Jump
returns-in-Jump c =
    met c.args.s.framed (omega (arith, c.requires))
    c.runs_before-k-end.ensures (omega arith)
    (rw c.in-Jump.is at c.try_run.ensures)

pub returns : goal.returns
returns c =
    all_clear c.loop-k.invariant (omega arith) c.runs_before-k-end.ensures (omega arith)
