-- The two coordinates, one after the other. Assumes nothing.
use lib.Ieee.{binary32, to_bits}
use Rattle.stepbytes.proofs.Puts.{two_points}
use Rattle.stepbytes.proofs.put_point.Goals as goal

pub returns : goal.returns
returns c = two_points c.args.out.now c.args.at (to_bits binary32 c.args.p.x) (to_bits binary32 c.args.p.y) c.put_bits.ensures c.put_bits-2.ensures
