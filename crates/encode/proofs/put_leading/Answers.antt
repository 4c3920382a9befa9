-- Four words and the gap. Assumes nothing.
use mathlib.Core.Path.{ap}
use mathlib.Core.List.{List}
use Prim.Native.Nat.{ℕ}
use lib.ListN.{set}
use Rattle.encode.proofs.put_leading.Goals as goal

pub returns : goal.returns
returns c =
    ap (λ (s : List ℕ). set s 4 c.args.gap) c.put_four.ensures
