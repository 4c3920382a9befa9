-- A line from its parts.
-- Assumes nothing.
use mathlib.Core.Path.{refl}
use mathlib.Core.List.{List, [], ◌∷◌, ◌++◌, append_assoc}
use Prim.Native.Nat.{ℕ, ◌+◌}
use lib.ListN.{set}
use Rattle.defs.specs.declared.Totals.{Totals}
use Rattle.defs.specs.Computing.Ascii.{ascii}
use Rattle.defs.specs.Computing.Text.{long_decimal, spaced, line, totals_line}
use Rattle.words.specs.Put.{Put}
use Rattle.layoutlines.specs.Line.{lined}
use Rattle.print.proofs.Puts.{then, one_then, same_put}

pub line_put : {o o' : List ℕ} {at r : ℕ} (word ns : List ℕ) → Put o o' at (word ++ spaced ns) r →
    Put o (set o' r 10) at (lined word ns) (r + 1)
line_put word ns p = same_put (append_assoc word (spaced ns) (10 ∷ [])) (then p (record { words = refl; after = refl }))

-- the last line: the used length after a space
pub totals_put : {o o₁ o₂ o₃ : List ℕ} {at a b r : ℕ} (t : Totals) → Put o o₁ at (ascii "used") a →
    Put (set o₁ a 32) o₂ (a + 1) (long_decimal t.used) b → Put o₂ o₃ b (line " placed" (t.placed ∷ [])) r → Put o o₃ at (totals_line t) r
unfolding totals_line
totals_put t p q l = then p (then (one_then 32 q) l)
