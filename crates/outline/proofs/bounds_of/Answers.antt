-- `bounds_of` meets its contract: each vertex more widens the bounds. Assumes nothing.
use native.Mathlib.Omega.{arith}
use Rattle.defs.specs.Meaning.Outline.{vx, vy}
use Rattle.outline.proofs.Vertices.{all_bounds, least_one, most_one, least_more, most_more}
use Rattle.outline.proofs.bounds_of.Goals as goal

pub loop-i-init : goal.loop-i-init
loop-i-init c =
    let x = vx c.args.o.now in
    let y = vy c.args.o.now in
    record { left = least_one x; right = most_one x; foot = least_one y; head = most_one y }

pub loop-i-preserved : goal.loop-i-preserved
loop-i-preserved c =
    let k = c.loop-i.invariant in
    let x = vx c.args.o.now in
    let y = vy c.args.o.now in
    record {
      left = least_more x _ c.loop-i.auto.i k.left c.min-left.ensures;
      right = most_more x _ c.loop-i.auto.i k.right c.max-right.ensures;
      foot = least_more y _ c.loop-i.auto.i k.foot c.min-foot.ensures;
      head = most_more y _ c.loop-i.auto.i k.head c.max-head.ensures;
    }

pub returns : goal.returns
returns c =
    let k = c.loop-i.invariant in
    all_bounds _ (omega (arith, c.loop-i.auto.i-end c.requires)) k.left k.right k.foot k.head
