-- Question 1 from the test of the first four bytes.
-- Assumes nothing.
use mathlib.Core.Path.{◌≡◌, refl, sym}
use mathlib.Core.List.{List, [], ◌∷◌}
use mathlib.Core.Bool.{Bool, true, false, ◌&&◌}
use Prim.Native.Nat.{ℕ, ◌≤◌}
use native.Mathlib.Omega.{arith}
use lib.Dec.{eqb}
use lib.ListN.{length}
use borrow.Author.Tests.{le-leb, ne_eqb, eq-eqb, eqb-true, eqb-false}
use Rattle.std.specs.List.{starts_with}
use Rattle.defs.specs.Meaning.Sheet.{mark}
use Rattle.defs.specs.Computing.Sheets.{q1b}

eqb_swap : (a b : ℕ) → eqb a b ≡ eqb b a
eqb_swap a b = go (eqb b a) refl
  where
    go : (r : Bool) → eqb b a ≡ r → eqb a b ≡ r
    go true e = eq-eqb a b (sym (eqb-true b a e))
    go false e = ne_eqb a b (λ z. eqb-false b a e (sym z))

four : (a b c d : Bool) → (a && (b && (c && (d && true)))) ≡ ((a && b) && (c && d))
four false b c d = refl
four true false c d = refl
four true true false d = refl
four true true true false = refl
four true true true true = refl

pub begun : (b : List ℕ) → 16 ≤ length b → starts_with eqb b mark ≡ q1b b
unfolding q1b
begun [] l = absurd (omega arith)
begun (x ∷ []) l = absurd (omega arith)
begun (x ∷ (y ∷ [])) l = absurd (omega arith)
begun (x ∷ (y ∷ (z ∷ []))) l = absurd (omega arith)
begun (x ∷ (y ∷ (z ∷ (u ∷ b)))) l =
    rw (le-leb 16 _ l, eqb_swap x 0x4e, eqb_swap y 0x4a, eqb_swap z 1, eqb_swap u 0) (four (eqb 0x4e x) (eqb 0x4a y) (eqb 1 z) (eqb 0 u))
