-- A part of a list, filled from another list, is what storing that list one after another gives.
-- Assumes nothing.
use mathlib.Core.Path.{◌≡◌}
use mathlib.Core.List.{List}
use Prim.Native.Nat.{ℕ, ◌+◌, ◌-◌, ◌≤◌}
use native.Mathlib.Omega.{arith}
use borrow.Rule.Slice.PartMut.{put_mid}
use lib.ListN.{length}
use lib.Seq.{sets, sets-eq}
use Rattle.std.proofs.lemmas.Grind.{common_steps}

pub part_stored : (to : ℕ) (w out new : List ℕ) → to + length w ≤ length out → new ≡ w →
    put_mid to (to + length w - to) out new ≡ sets out to w
part_stored to w out new l e = rw (e, sets-eq w out to l) (grind (arith, common_steps))
