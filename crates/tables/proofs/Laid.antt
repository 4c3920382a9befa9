-- A strip whose records follow each other column by column: each chain is a range of records, in which the column's runs stand, and all
-- chains together are one range.
-- Assumes nothing.
use mathlib.Core.Path.{◌≡◌, refl, ap, ap₂, ◌∙◌}
use mathlib.Core.Bool.{true}
use mathlib.Core.List.{List, [], ◌∷◌, ◌++◌}
use Prim.Native.Nat.{ℕ, zero, suc, ◌+◌, ◌≤◌, ◌<◌}
use native.Mathlib.Omega.{arith}
use native.Mathlib.Nat.{add-zero}
use lib.ListN.{length, get_or, replicate}
use Rattle.defs.specs.Meaning.Strip.{first_of, column_of, low_of, high_of, next_of}
use Rattle.defs.specs.Computing.Test.{list_from, chain_by, ends_by}
use Rattle.defs.specs.Computing.Cells.{Rows, count_runs}
use Rattle.defs.specs.Computing.Words.{concat, rows_of, runs_of}
use Rattle.geom.proofs.Counting.{none}
use Rattle.laws.proofs.Walks.{chain_zero, chain_step, zero_ends_by, ends_step}
use Rattle.laws.proofs.Formed.{records_in, list_of}
use Rattle.tables.proofs.Ranges.{range, range_append}

-- where the chain of these runs begins, if they stand in the records from r on
abbrev pub head : ℕ → List Rows → ℕ
head r [] = 0
head r (x ∷ xs) = r

-- record r is the run x of column k, and `next` comes after it
pub record RecordIs (s : List ℕ) (k r : ℕ) (x : Rows) (next : ℕ) : Type 0 where
  pub column : column_of s r ≡ k
  pub low : low_of s r ≡ x.low
  pub high : high_of s r ≡ x.high
  pub goes_to : next_of s r ≡ next

-- The records from r on are these runs of column k, each chained to the one after it.
unfoldable pub Laid : List ℕ → ℕ → ℕ → List Rows → Type 0
Laid s k r [] = Unit {0}
Laid s k r (x ∷ xs) = RecordIs s k r x (head (suc r) xs) × Laid s k (suc r) xs

-- The records from r on are these columns, the first of them column k.
unfoldable pub LaidFrom : List ℕ → ℕ → ℕ → List (List Rows) → Type 0
LaidFrom s k r [] = Unit {0}
LaidFrom s k r (c ∷ cs) = (first_of s k ≡ head r c) × Laid s k r c × LaidFrom s (suc k) (r + length c) cs

-- The free records stand after all others, as the runs of one more column, which have no rows.
abbrev pub with_free : List (List Rows) → ℕ → List (List Rows)
with_free held n = held ++ (replicate n none ∷ [])

-- Column k has these runs, in records from `start` on, which are records of the strip.
pub record ColumnLaid (s : List ℕ) (k : ℕ) (c : List Rows) : Type 0 where
  pub start : ℕ
  pub some : 0 < start
  pub within : start + length c ≤ suc (records_in s)
  pub first : first_of s k ≡ head start c
  pub laid : Laid s k start c

module _ (s : List ℕ) where
  -- the chain is the range of its records, ends, and has the runs
  chain_laid : (k r : ℕ) (c : List Rows) (m : ℕ) → 0 < r → Laid s k r c → length c ≤ m →
      chain_by (next_of s) m (head r c) ≡ range r (length c)
  unfolding Laid list_from
  chain_laid k r [] m p l h = chain_zero (next_of s) m
  chain_laid k r (x ∷ xs) zero p l h = absurd (omega arith)
  chain_laid k r (x ∷ xs) (suc m) p l h =
      chain_step (next_of s) m r p ∙
      ap (λ (t : List ℕ). r ∷ t)
      (ap (chain_by (next_of s) m) l.0.goes_to ∙ chain_laid k (suc r) xs m (omega arith) l.1 (omega arith))

  ends_laid : (Q k r : ℕ) (c : List Rows) (m : ℕ) → 0 < r → r + length c ≤ suc Q → Laid s k r c → length c ≤ m →
      ends_by (next_of s) Q m (head r c) ≡ true
  unfolding Laid
  ends_laid Q k r [] m p q l h = zero_ends_by (next_of s) Q m
  ends_laid Q k r (x ∷ xs) zero p q l h = absurd (omega arith)
  ends_laid Q k r (x ∷ xs) (suc m) p q l h =
      (ends_step (next_of s) Q m r p).1 (
        omega arith,
        ap (ends_by (next_of s) Q m) l.0.goes_to ∙
            ends_laid Q k (suc r) xs m (omega arith) (omega arith) l.1 (omega arith),
      )

  rows_laid : (k r : ℕ) (c : List Rows) → Laid s k r c → rows_of s (range r (length c)) ≡ c
  unfolding Laid list_from rows_of
  rows_laid k r [] l = refl
  rows_laid k r (x ∷ xs) l =
      ap₂ ◌∷◌ (ap₂ (λ (a b : ℕ). record { low = a; high = b }) l.0.low l.0.high) (rows_laid k (suc r) xs l.1)

  -- each of the columns is laid by itself
  first_laid : (k r : ℕ) (c : List Rows) (cs : List (List Rows)) → 0 < r → r + count_runs (c ∷ cs) ≤ suc (records_in s) →
      LaidFrom s k r (c ∷ cs) → ColumnLaid s k c
  unfolding LaidFrom count_runs
  first_laid k r c cs p q l = record { start = r; some = p; within = omega arith; first = l.0; laid = l.1 }

  pub column_laid : (k r : ℕ) (cs : List (List Rows)) → 0 < r → r + count_runs cs ≤ suc (records_in s) → LaidFrom s k r cs →
      (i : ℕ) → i < length cs → ColumnLaid s (k + i) (get_or cs i [])
  unfolding LaidFrom count_runs
  column_laid k r [] p q l i h = absurd (omega arith)
  column_laid k r (c ∷ cs) p q l zero h = rw add-zero (first_laid k r c cs p q l)
  column_laid k r (c ∷ cs) p q l (suc i) h =
      let e : k + suc i ≡ suc k + i = omega arith in
      rw e (column_laid (suc k) (r + length c) cs (omega arith) (omega arith) l.2 i (omega arith))

  module _ {k : ℕ} {c : List Rows} (l : ColumnLaid s k c) where
    pub list_laid : list_of s k ≡ range l.start (length c)
    list_laid =
        ap (chain_by (next_of s) (records_in s)) l.first ∙
        chain_laid k l.start c (records_in s) l.some l.laid (omega (arith, l.some, l.within))

    pub column_ends : ends_by (next_of s) (records_in s) (records_in s) (first_of s k) ≡ true
    column_ends =
        ap (ends_by (next_of s) (records_in s) (records_in s)) l.first ∙
        ends_laid (records_in s) k l.start c (records_in s) l.some l.within l.laid (omega (arith, l.some, l.within))

    pub runs_laid : runs_of s k ≡ c
    unfolding runs_of
    runs_laid = ap (rows_of s) list_laid ∙ rows_laid k l.start c l.laid

  -- all chains together are the records one after another
  pub all_laid : (k r : ℕ) (cs : List (List Rows)) → 0 < r → r + count_runs cs ≤ suc (records_in s) → LaidFrom s k r cs →
      concat (list_from (list_of s) k (length cs)) ≡ range r (count_runs cs)
  unfolding LaidFrom count_runs concat list_from first_laid
  all_laid k r [] p q l = refl
  all_laid k r (c ∷ cs) p q l =
      ap₂ ◌++◌ (list_laid (first_laid k r c cs p q l))
      (all_laid (suc k) (r + length c) cs (omega arith) (omega arith) l.2) ∙
      range_append r (length c) (count_runs cs)
