-- The table of a strip's runs, column by column.
-- Assumes nothing.
use mathlib.Core.Path.{◌≡◌, refl, ap, ◌∙◌}
use mathlib.Core.List.{List, [], ◌∷◌}
use Prim.Native.Nat.{ℕ, zero, suc, ◌≤◌, ◌<◌}
use native.Mathlib.Omega.{arith}
use lib.ListN.{length, get_or}
use Rattle.laws.proofs.Lists.{list_from_at, list_from_past}
use Rattle.defs.specs.declared.Position.{Position}
use Rattle.defs.specs.Meaning.Strip.{columns_of}
use Rattle.defs.specs.Computing.Cells.{Rows}
use Rattle.defs.specs.Computing.Search.{entered_from, entered}
use Rattle.defs.specs.Computing.Words.{runs_of, columns_runs}

pub column_at : (s : List ℕ) (k : ℕ) → k < columns_of s → get_or (columns_runs s) k [] ≡ runs_of s k
unfolding columns_runs
column_at s k h = list_from_at (runs_of s) 0 (columns_of s) k [] h ∙ ap (runs_of s) (omega arith)

pub column_past : (s : List ℕ) (k : ℕ) → columns_of s ≤ k → get_or (columns_runs s) k [] ≡ []
unfolding columns_runs
column_past s k h = list_from_past (runs_of s) 0 (columns_of s) k [] h

entered_past_from : (W : ℕ) (piece : List (List Rows)) (p : Position) (k : ℕ) (held : List (List Rows)) (i : ℕ) →
    length held ≤ i → get_or (entered_from W piece p k held) i [] ≡ []
unfolding entered_from
entered_past_from W piece p k [] i h = refl
entered_past_from W piece p k (b ∷ bs) zero h = absurd (omega arith)
entered_past_from W piece p k (b ∷ bs) (suc i) h = entered_past_from W piece p (suc k) bs i (omega arith)

pub entered_past : (W R g : ℕ) (held : List (List Rows)) (o : List ℕ) (p : Position) (i : ℕ) →
    length held ≤ i → get_or (entered W R g held o p) i [] ≡ []
unfolding entered
entered_past W R g held o p i h = entered_past_from W _ p 0 held i h
