-- The words of a strip by parts: each part is its next words and the rest. A table laid flat has as many runs as it says, and its
-- columns begin where it says.
-- Assumes nothing.
use mathlib.Core.Path.{◌≡◌, refl, ap, ap₂, sym, ◌∙◌}
use mathlib.Core.Bool.{cond}
use mathlib.Core.List.{List, [], ◌∷◌, ◌++◌}
use Prim.Native.Nat.{ℕ, zero, suc, ◌+◌, ◌-◌, ◌*◌, ◌/◌, ◌%◌, ◌≤◌, ◌<◌}
use native.Mathlib.Omega.{arith}
use native.Mathlib.Numerals.{add-one}
use native.Mathlib.Decide.{dec_lt}
use lib.Dec.{eqb}
use lib.ListN.{length, get_or}
use borrow.Author.Tests.{lt-ltb, le-ltb, eq-eqb, ne_eqb}
use Rattle.laws.proofs.Lists.{length-list_from}
use Rattle.defs.specs.Computing.Test.{list_from}
use Rattle.defs.specs.Computing.Words.{heads, column_words, run_words, free_words}
use Rattle.tables.specs.Flat.{row_at, rows_from, rows_in, table_of, Flat}
use Rattle.tables.proofs.Flats.{column_count, after_column, count_is}
use Rattle.tables.proofs.WrittenWords.{length_column, length_runs}
use Rattle.freerecords.specs.Stored.{link, first_record, first_records, parts_of}

-- f k to f (end - 1), with the first taken out
pub from_next : {A : Type 0} (f : ℕ → A) (k end : ℕ) → k < end →
    list_from f k (end - k) ≡ f k ∷ list_from f (k + 1) (end - (k + 1))
unfolding list_from
from_next f k end l = let e : end - k ≡ suc (end - (k + 1)) = omega arith in rw (e, add-one k)

pub from_end : {A : Type 0} (f : ℕ → A) (k end : ℕ) → end ≤ k → list_from f k (end - k) ≡ []
unfolding list_from
from_end f k end l = let e : end - k ≡ 0 = omega arith in rw e

from_start : {A : Type 0} (f : ℕ → A) (end : ℕ) → list_from f 0 end ≡ list_from f 0 (end - 0)
from_start f end = ap (list_from f 0) (omega arith)

pub firsts_start : (f : List ℕ) (N : ℕ) → first_records f N ≡ list_from (first_record f) 0 (N - 0)
unfolding first_records
firsts_start f N = from_start (first_record f) N

pub firsts_length : (f : List ℕ) (N : ℕ) → length (first_records f N) ≡ N
unfolding first_records
firsts_length f N = length-list_from (first_record f) 0 N

-- a chain with no run from run i on ends there
link_is : (i end n : ℕ) → n ≡ end - i → link i end ≡ cond (eqb n 0) 0 (i + 1)
link_is i end n e = go (dec_lt i end)
  where
    go : Dec (i < end) → link i end ≡ cond (eqb n 0) 0 (i + 1)
    go (yes l) = simp (lt-ltb i end l, ne_eqb n 0 (λ z. omega arith))
    go (no l) = simp (le-ltb i end (omega arith), eq-eqb n 0 (omega arith))

column_step : (k : ℕ) (l h : List ℕ) (i end : ℕ) → i < end →
    column_words k (i + 1) (rows_from l h i (end - i)) ≡
    k ∷ get_or l i 0 ∷ get_or h i 0 ∷ link (i + 1) end ∷ column_words k (i + 1 + 1) (rows_from l h (i + 1) (end - (i + 1)))
unfolding column_words rows_from
column_step k l h i end b =
    rw (from_next (row_at l h) i end b, link_is (i + 1) end _ (length-list_from (row_at l h) (i + 1) (end - (i + 1))))

pub column_end : (k r : ℕ) (l h : List ℕ) (i end : ℕ) → end ≤ i → column_words k r (rows_from l h i (end - i)) ≡ []
unfolding column_words rows_from
column_end k r l h i end b = rw (from_end (row_at l h) i end b)

-- run i's record, and the column's records after it
pub column_next : (k : ℕ) (l h : List ℕ) (i end : ℕ) → i + 1 < end →
    column_words k (i + 1) (rows_from l h i (end - i)) ≡
    k ∷ get_or l i 0 ∷ get_or h i 0 ∷ (i + 1 + 1) ∷ column_words k (i + 1 + 1) (rows_from l h (i + 1) (end - (i + 1)))
column_next k l h i end b = column_step k l h i end (omega arith) ∙ simp (lt-ltb (i + 1) end b)

pub column_last : (k : ℕ) (l h : List ℕ) (i end : ℕ) → end ≡ i + 1 →
    column_words k (i + 1) (rows_from l h i (end - i)) ≡ k ∷ get_or l i 0 ∷ get_or h i 0 ∷ 0 ∷ []
column_last k l h i end b =
    column_step k l h i end (omega arith) ∙
    rw (column_end k (i + 1 + 1) l h (i + 1) end (omega arith)) (simp (le-ltb (i + 1) end (omega arith)))

-- a free record as one number
pub free_parts : (N next : ℕ) → N < 65536 → parts_of (N + 65536 * 65536 * 65536 * next) ≡ N ∷ 0 ∷ 0 ∷ next ∷ []
free_parts N next b =
    let v = N + 65536 * 65536 * 65536 * next in
    let w : v / 65536 ≡ 65536 * 65536 * next = omega arith in
    let x : 65536 * 65536 * next / 65536 ≡ 65536 * next = omega arith in
    let a0 : v % 65536 ≡ N = omega arith in
    let a1 : 65536 * 65536 * next % 65536 ≡ 0 = omega arith in
    let a2 : 65536 * next % 65536 ≡ 0 = omega arith in
    let a3 : 65536 * next / 65536 ≡ next = omega arith in
    rw (w, x, a0, a1, a2, a3)

-- free record i + 1, and those after it
pub free_next : (N i Q : ℕ) → i + 1 < Q →
    free_words N (i + 1) (Q - i) ≡ N ∷ 0 ∷ 0 ∷ (i + 1 + 1) ∷ free_words N (i + 1 + 1) (Q - (i + 1))
unfolding free_words
free_next N i Q b =
    let e : Q - i ≡ suc (Q - (i + 1)) = omega arith in
    rw e (simp (ne_eqb (Q - (i + 1)) 0 (λ z. omega arith)))

pub free_last : (N i Q : ℕ) → Q ≡ i + 1 → free_words N (i + 1) (Q - i) ≡ N ∷ 0 ∷ 0 ∷ 0 ∷ []
unfolding free_words
free_last N i Q b = let e : Q - i ≡ suc 0 = omega arith in rw e

pub free_end : (N r i Q : ℕ) → Q ≤ i → free_words N r (Q - i) ≡ []
unfolding free_words
free_end N r i Q b = let e : Q - i ≡ 0 = omega arith in rw e

-- The words of a table laid flat.
module _ {f l h : List ℕ} {N t : ℕ} (flat : Flat f l h N t) where
  pub column_words_lem : (k : ℕ) → k < N →
      length (column_words k (get_or f k 0 + 1) (rows_in f l h k)) + 4 * get_or f k 0 ≡ 4 * get_or f (k + 1) 0
  column_words_lem k b = omega (arith, length_column k (get_or f k 0 + 1) (rows_in f l h k), after_column flat k b)

  -- the records of column k, and those of the columns after it
  pub runs_next : (k : ℕ) → k < N →
      run_words k (get_or f k 0 + 1) (list_from (rows_in f l h) k (N - k)) ≡
      column_words k (get_or f k 0 + 1) (rows_in f l h k) ++
      run_words (k + 1) (get_or f (k + 1) 0 + 1) (list_from (rows_in f l h) (k + 1) (N - (k + 1)))
  unfolding run_words
  runs_next k b = rw (from_next (rows_in f l h) k N b, after_column flat k b)

  pub runs_start : run_words 0 1 (table_of f l h N) ≡ run_words 0 (get_or f 0 0 + 1) (list_from (rows_in f l h) 0 (N - 0))
  unfolding table_of
  runs_start =
      let e : get_or f 0 0 + 1 ≡ 1 = omega (arith, flat.start) in
      rw e (ap (run_words 0 1) (from_start (rows_in f l h) N))

  pub runs_end : (k r : ℕ) → N ≤ k → run_words k r (list_from (rows_in f l h) k (N - k)) ≡ []
  unfolding run_words
  runs_end k r b = rw (from_end (rows_in f l h) k N b)

  heads_from : (k n : ℕ) → k + n ≤ N → heads (get_or f k 0 + 1) (list_from (rows_in f l h) k n) ≡ list_from (first_record f) k n
  unfolding heads list_from
  heads_from k zero b = refl
  heads_from k (suc n) b =
      ap₂ ◌∷◌ (sym (link_is (get_or f k 0) (get_or f (k + 1) 0) _ (column_count flat k)))
      (ap (λ (r : ℕ). heads r (list_from (rows_in f l h) (suc k) n)) (after_column flat k (omega arith)) ∙
      rw (add-one k) (heads_from (suc k) n (omega arith)))

  pub heads_are : heads 1 (table_of f l h N) ≡ first_records f N
  unfolding table_of first_records
  heads_are = let e : get_or f 0 0 + 1 ≡ 1 = omega (arith, flat.start) in rw e at (heads_from 0 N (omega arith))

  pub runs_length : length (run_words 0 1 (table_of f l h N)) ≡ 4 * t
  runs_length = omega (arith, length_runs 0 1 (table_of f l h N), count_is flat)
