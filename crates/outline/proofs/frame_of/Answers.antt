-- `frame_of` meets its contract: each turn takes its own corner of the bounds to (0, 0). Assumes nothing.
use mathlib.Core.Path.{refl}
use native.Mathlib.Omega.{arith}
use Rattle.defs.specs.Computing.Vertices.{corner_x, corner_y}
use Rattle.outline.proofs.Vertices.{frame_at}
use Rattle.outline.proofs.frame_of.Goals as goal
use Rattle.outline.proofs.frame_of.Goals.{in-0, in-1, in-2, in_default}

pub returns : goal.returns
unfolding corner_x corner_y
returns c =
    let b = c.requires.fact_1 in (
      refl,
      elim c.match-t.branch [
        | in-0 w ↦ frame_at 0 w.in-0.is (omega arith) w.x-is b.left b.foot
        | in-1 w ↦ frame_at 1 w.in-1.is (omega arith) w.x-is b.head b.left
        | in-2 w ↦ frame_at 2 w.in-2.is (omega arith) w.x-is b.right b.head
        | in_default w ↦ frame_at 3 (omega arith) (omega arith) w.x-is b.foot b.right
      ],
    )
