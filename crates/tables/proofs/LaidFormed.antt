-- A strip whose records follow each other column by column has columns and free records as they have to be, where the runs of each
-- column are apart and below the width, and those of the free records have no rows.
-- Assumes nothing.
use mathlib.Core.Path.{◌≡◌, refl, ap, subst, ◌∙◌}
use mathlib.Core.Logic.{inl, inr}
use mathlib.Core.Bool.{true}
use mathlib.Core.List.{List, [], ◌∷◌}
use Prim.Native.Nat.{ℕ, zero, suc, ◌+◌, ◌-◌, ◌<◌}
use native.Mathlib.Omega.{arith}
use native.Mathlib.Decide.{ℕ_discrete}
use lib.ListN.{length, get_or, replicate}
use Rattle.defs.specs.Meaning.Strip.{width_of, columns_of, low_of, high_of, next_of, InColumn, IsFree}
use Rattle.defs.specs.Computing.Test.{list_from}
use Rattle.defs.specs.Computing.Cells.{Rows, in_rows}
use Rattle.defs.specs.Computing.Words.{occurrences}
use Rattle.geom.proofs.Stretches.{Among, of_among}
use Rattle.geom.proofs.RunLists.{ApartFrom, Apart}
use Rattle.geom.proofs.Counting.{none}
use Rattle.laws.proofs.Occurs.{occurs_later}
use Rattle.laws.proofs.Formed.{list_of}
use Rattle.tables.proofs.Ranges.{range}
use Rattle.tables.proofs.Laid.{head, Laid, ColumnLaid, list_laid}

module _ (s : List ℕ) where
  -- What follows for a record from the runs that begin there: G holds of them, and then also of those after the first.
  each_laid : (G : List Rows → Type 0) (P : ℕ → Type 0) (k : ℕ) →
      ((r : ℕ) (x : Rows) (xs : List Rows) → G (x ∷ xs) → Laid s k r (x ∷ xs) → P r × G xs) →
      (r : ℕ) (c : List Rows) → G c → Laid s k r c → (z : ℕ) → 0 < occurrences z (range r (length c)) → P z
  unfolding Laid list_from occurrences
  each_laid G P k step r [] g l z o = absurd (omega arith)
  each_laid G P k step r (x ∷ xs) g l z o =
      let t = step r x xs g l in
      go (ℕ_discrete r z) t.0 (each_laid G P k step (suc r) xs t.1 l.1 z)
    where
      go : Dec (r ≡ z) → P r → (0 < occurrences z (range (suc r) (length xs)) → P z) → P z
      go (yes e) h f = subst P e h
      go (no e) h f = f (rw (occurs_later z r _ e) at o)

  each_listed : {k : ℕ} {c : List Rows} → ColumnLaid s k c → (G : List Rows → Type 0) (P : ℕ → Type 0) →
      ((r : ℕ) (x : Rows) (xs : List Rows) → G (x ∷ xs) → Laid s k r (x ∷ xs) → P r × G xs) →
      G c → (r : ℕ) → 0 < occurrences r (list_of s k) → P r
  each_listed {k} {c} l G P step g r o = each_laid G P k step l.start c g l.laid r (rw (list_laid s l) at o)

  -- runs that rise and stay below the width
  record Rising (c : List Rows) : Type 0 where
    from : ℕ
    apart : ApartFrom from c
    below : (j : ℕ) → Among c j → j < width_of s

  rising_laid : (k r : ℕ) (x : Rows) (xs : List Rows) → Rising (x ∷ xs) → Laid s k r (x ∷ xs) → InColumn s k r × Rising xs
  unfolding Laid ApartFrom Among
  rising_laid k r x xs g l = (
    record {
      column = l.0.column;
      some = omega (arith, l.0.low, l.0.high, g.apart.1);
      fits = omega (arith, l.0.high, g.below (x.high - 1) (inl (omega (arith, g.apart.1))));
      apart = next xs g.apart.2 l.0.goes_to l.1;
    },
    record { from = x.high + 1; apart = g.apart.2; below = λ j a. g.below j (inr a) },
  )
    where
      next : (ys : List Rows) → ApartFrom (x.high + 1) ys → next_of s r ≡ head (suc r) ys → Laid s k (suc r) ys →
          0 < next_of s r → high_of s r < low_of s (next_of s r)
      next [] a e m h = absurd (omega arith)
      next (y ∷ ys) a e m h = rw e (omega (arith, l.0.high, m.0.low, a.0))

  free_laid : (r : ℕ) (x : Rows) (xs : List Rows) → ((i : ℕ) → get_or (x ∷ xs) i none ≡ none) →
      Laid s (columns_of s) r (x ∷ xs) → IsFree s r × ((i : ℕ) → get_or xs i none ≡ none)
  unfolding Laid
  free_laid r x xs g l = (
    record {
      column = l.0.column;
      low = l.0.low ∙ ap (λ (y : Rows). y.low) (g 0);
      high = l.0.high ∙ ap (λ (y : Rows). y.high) (g 0);
    },
    λ i. g (suc i),
  )

  -- the records of a column whose runs are apart and below the width, and the free ones, are as they have to be
  pub column_formed : {k : ℕ} {c : List Rows} → ColumnLaid s k c → Apart c → ((j : ℕ) → in_rows c j ≡ true → j < width_of s) →
      (r : ℕ) → 0 < occurrences r (list_of s k) → InColumn s k r
  column_formed {k} {c} l a w =
      each_listed l Rising (InColumn s k) (rising_laid k) (record { from = 0; apart = a; below = λ j h. w j (of_among c j h) })

  pub free_formed : (m : ℕ) → ColumnLaid s (columns_of s) (replicate m none) →
      (r : ℕ) → 0 < occurrences r (list_of s (columns_of s)) → IsFree s r
  free_formed m l = each_listed l (λ c. (i : ℕ) → get_or c i none ≡ none) (IsFree s) free_laid (none_at m)
    where
      none_at : (m i : ℕ) → get_or (replicate m none) i none ≡ none
      none_at zero i = refl
      none_at (suc m) zero = refl
      none_at (suc m) (suc i) = none_at m i
