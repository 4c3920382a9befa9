-- The words of a table of columns, three for each run: those of the stretch with number a begin at word 3 * a, since each column before
-- it has three words for each of its stretches. A greater number is a later column, or a later stretch of the same column.
-- Assumes nothing.
use mathlib.Core.Path.{◌≡◌, refl, ap, subst, ◌∙◌}
use mathlib.Core.Logic.{◌⊎◌, inl, inr, ⊎_elim}
use mathlib.Core.List.{List, [], ◌∷◌, ◌++◌}
use Prim.Native.Nat.{ℕ, zero, suc, ◌+◌, ◌*◌, ◌<◌}
use native.Mathlib.Omega.{arith}
use native.Mathlib.Nat.{add-zero, zero-add}
use lib.ListN.{length, get_or, take, length-append, get_or-append}
use lib.Seq.{get_or-append-add}
use Rattle.defs.specs.Computing.Cells.{Rows, count_runs}
use Rattle.defs.specs.Computing.Calls.{rows_words, runs_words}
use Rattle.geom.proofs.Strip.{lt_or_le}
use Rattle.geom.proofs.Counting.{number_of, number_below, spot, spot_number, none}

-- the three words of run a are column i and the rows r
pub record RunAt (ws : List ℕ) (a i : ℕ) (r : Rows) : Type 0 where
  pub column : get_or ws (3 * a) 0 ≡ i
  pub low : get_or ws (3 * a + 1) 0 ≡ r.low
  pub high : get_or ws (3 * a + 2) 0 ≡ r.high

-- runs keep their words before others, and come later by the words that stand before them
words_before : (ws vs : List ℕ) {a i : ℕ} {r : Rows} → 3 * a + 2 < length ws → RunAt ws a i r → RunAt (ws ++ vs) a i r
words_before ws vs {a} l h =
    record {
      column = get_or-append ws vs 0 (3 * a) (omega arith) ∙ h.column;
      low = get_or-append ws vs 0 (3 * a + 1) (omega arith) ∙ h.low;
      high = get_or-append ws vs 0 (3 * a + 2) l ∙ h.high;
    }

words_after : (ws vs : List ℕ) (m : ℕ) {a i : ℕ} {r : Rows} → 3 * m ≡ length ws + 3 * a → RunAt vs a i r → RunAt (ws ++ vs) m i r
words_after ws vs m {a} e h =
    record {
      column = at (3 * m) (3 * a) e ∙ h.column;
      low = at (3 * m + 1) (3 * a + 1) (omega arith) ∙ h.low;
      high = at (3 * m + 2) (3 * a + 2) (omega arith) ∙ h.high;
    }
  where
    at : (x y : ℕ) → x ≡ length ws + y → get_or (ws ++ vs) x 0 ≡ get_or vs y 0
    at x y e = ap (λ (n : ℕ). get_or (ws ++ vs) n 0) e ∙ get_or-append-add ws vs y 0

pub rows_length : (i : ℕ) (rs : List Rows) → length (rows_words i rs) ≡ 3 * length rs
unfolding rows_words
rows_length i [] = refl
rows_length i (r ∷ rs) = omega (arith, rows_length i rs)

pub runs_length : (i : ℕ) (held : List (List Rows)) → length (runs_words i held) ≡ 3 * count_runs held
unfolding runs_words count_runs
runs_length i [] = refl
runs_length i (c ∷ cs) =
    omega (arith, length-append (rows_words i c) (runs_words (i + 1) cs), rows_length i c, runs_length (i + 1) cs)

rows_at : (i : ℕ) (rs : List Rows) (k : ℕ) → k < length rs → RunAt (rows_words i rs) k i (get_or rs k none)
unfolding rows_words
rows_at i [] k l = absurd (omega arith)
rows_at i (r ∷ rs) zero l = record { column = refl; low = refl; high = refl }
rows_at i (r ∷ rs) (suc k) l =
    words_after (i ∷ r.low ∷ r.high ∷ []) (rows_words i rs) (suc k) (omega arith) (rows_at i rs k (omega arith))

-- b is the table's first column
runs_from : (b : ℕ) (held : List (List Rows)) (i k : ℕ) → k < length (get_or held i []) →
    RunAt (runs_words b held) (number_of held i k) (b + i) (get_or (get_or held i []) k none)
unfolding runs_words number_of count_runs
runs_from b [] i k l = absurd (omega arith)
runs_from b (c ∷ cs) zero k l =
    words_before (rows_words b c) (runs_words (b + 1) cs) (omega (arith, rows_length b c))
    (rw (zero-add k, add-zero b) (rows_at b c k l))
runs_from b (c ∷ cs) (suc i) k l =
    words_after (rows_words b c) (runs_words (b + 1) cs) (number_of (c ∷ cs) (suc i) k) (omega (arith, rows_length b c))
    (subst (λ (n : ℕ). RunAt (runs_words (b + 1) cs) (number_of cs i k) n (get_or (get_or cs i []) k none)) (omega arith)
    (runs_from (b + 1) cs i k l))

-- The words of a table from column 0 on, and others after them.
module _ (held : List (List Rows)) (rest : List ℕ) where
  pub run_words_lem : (i k : ℕ) → k < length (get_or held i []) →
      RunAt (runs_words 0 held ++ rest) (number_of held i k) i (get_or (get_or held i []) k none)
  run_words_lem i k l =
      words_before (runs_words 0 held) rest (omega (arith, runs_length 0 held, number_below held i k l)) (rw (zero-add i) at (runs_from 0 held i k l))

  pub spot_words : (a : ℕ) → a < count_runs held →
      RunAt (runs_words 0 held ++ rest) a (spot held a).0 (get_or (get_or held (spot held a).0 []) (spot held a).1 none)
  spot_words a l =
      subst
      (λ (m : ℕ).
      RunAt (runs_words 0 held ++ rest) m (spot held a).0 (get_or (get_or held (spot held a).0 []) (spot held a).1 none))
      (spot_number held a l).1 (run_words_lem (spot held a).0 (spot held a).1 (spot_number held a l).0)

-- the stretches of a later column have greater numbers
pub later_column : (held : List (List Rows)) (i k i' k' : ℕ) → i < i' → k < length (get_or held i []) →
    number_of held i k < number_of held i' k'
unfolding number_of count_runs
later_column [] i k i' k' g l = absurd (omega arith)
later_column (c ∷ cs) i k zero k' g l = absurd (omega arith)
later_column (c ∷ cs) zero k (suc i') k' g l = omega arith
later_column (c ∷ cs) (suc i) k (suc i') k' g l = omega (arith, later_column cs i k i' k' (omega arith) l)

-- so the next number is a later column's, or the next stretch of the same column
pub next_number : (held : List (List Rows)) (i k i' k' : ℕ) → k < length (get_or held i []) → k' < length (get_or held i' []) →
    number_of held i' k' ≡ suc (number_of held i k) → (i < i') ⊎ ((i ≡ i') × (k' ≡ suc k))
unfolding number_of
next_number held i k i' k' l l' e =
    ⊎_elim inl
    (λ g.
    ⊎_elim (λ h. absurd (omega (arith, later_column held i' k' i k h l')))
    (λ h. let q : i ≡ i' = omega arith in inr (q, omega (arith, ap (λ (n : ℕ). count_runs (take n held)) q)))
    (lt_or_le i' i))
    (lt_or_le i i')
