-- A table of runs, column by column: its cells, and what a table of N columns and W rows is.
-- Assumes nothing.
use mathlib.Core.Path.{◌≡◌, subst}
use mathlib.Core.Logic.{⊎_elim}
use mathlib.Core.Bool.{true}
use mathlib.Core.List.{List, []}
use Prim.Native.Nat.{ℕ, ◌<◌}
use lib.ListN.{length, get_or, get_or-eq_default}
use Rattle.geom.proofs.Strip.{lt_or_le}
use Rattle.geom.proofs.Stretches.{Valid, no_rows}
use Rattle.defs.specs.Computing.Cells.{Rows, in_rows}

-- the cells of a table of runs, column by column
abbrev pub In : List (List Rows) → ℕ → ℕ → Type 0
In held i j = in_rows (get_or held i []) j ≡ true

-- past the end of the table there is no row
pub in_table : (held : List (List Rows)) (i j : ℕ) → In held i j → i < length held
in_table held i j e =
    ⊎_elim (λ l. l)
    (λ l. absurd (no_rows j (subst (λ (rs : List Rows). in_rows rs j ≡ true) (get_or-eq_default held [] l) e)))
    (lt_or_le i (length held))

-- a table of N columns with all rows below W, and no stretch empty
pub record Table (W N : ℕ) (held : List (List Rows)) : Type 0 where
  pub long : length held ≡ N
  pub below : (i j : ℕ) → In held i j → j < W
  pub valid : (i : ℕ) → Valid (get_or held i [])
