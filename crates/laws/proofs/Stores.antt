-- Lists stored into a list, one after another.
-- Assumes nothing.
use mathlib.Core.Path.{◌≡◌}
use mathlib.Core.List.{List, [], ◌∷◌, ◌++◌}
use Prim.Native.Nat.{ℕ, suc, ◌+◌}
use native.Mathlib.Omega.{arith}
use lib.ListN.{length, set}
use lib.Seq.{sets}

pub sets_append : (l ws vs : List ℕ) (i : ℕ) → sets l i (ws ++ vs) ≡ sets (sets l i ws) (i + length ws) vs
sets_append l [] vs i = let e : i + 0 ≡ i = omega arith in rw e
sets_append l (w ∷ ws) vs i =
    let e : i + suc (length ws) ≡ suc i + length ws = omega arith in
    rw e (sets_append (set l i w) ws vs (suc i))
