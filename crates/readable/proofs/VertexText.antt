-- A vertex put byte by byte, and its room.
-- Assumes nothing.
use mathlib.Core.List.{List, ◌∷◌, ◌++◌}
use Prim.Native.Nat.{ℕ, ◌+◌, ◌≤◌}
use native.Mathlib.Omega.{arith}
use lib.ListN.{length, set, length-append, length-set}
use Rattle.defs.specs.Computing.Text.{decimal}
use Rattle.words.specs.Put.{Put}
use Rattle.print.proofs.Puts.{then, one_then, put_long, decimal_few}
use Rattle.readable.specs.Words.{vertex_text}

pub vertex_put : (o : List ℕ) {o₁ o₂ xs ys : List ℕ} {at a r : ℕ} → Put (set o at 32) o₁ (at + 1) xs a →
    Put (set o₁ a 44) o₂ (a + 1) ys r → Put o o₂ at (32 ∷ (xs ++ (44 ∷ ys))) r
vertex_put o p q = one_then 32 (then p (one_then 44 q))

-- the comma and y have room after x
pub after_x : (o : List ℕ) (at x : ℕ) {o₁ : List ℕ} {a : ℕ} → at + 12 ≤ length o → Put (set o at 32) o₁ (at + 1) (decimal x) a →
    a + 6 ≤ length o₁
after_x o at x l p = omega (arith, p.after, decimal_few x, put_long p, length-set o at 32)

pub vertex_few : (x y : ℕ) → length (vertex_text x y) ≤ 12
vertex_few x y = omega (arith, length-append (decimal x) (44 ∷ decimal y), decimal_few x, decimal_few y)
