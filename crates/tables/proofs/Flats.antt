-- A table laid flat and its list of columns say the same: a row is occupied in the arrays exactly when the column holds it, and runs are
-- apart by index exactly when the column's list is apart.
-- Assumes nothing.
use mathlib.Core.Path.{◌≡◌, sym, ap, subst, ◌∙◌}
use mathlib.Core.Logic.{◌↔◌, inl, inr, ⊎_elim}
use mathlib.Core.Bool.{true}
use mathlib.Core.List.{List, []}
use Prim.Native.Nat.{ℕ, zero, suc, ◌+◌, ◌-◌, ◌≤◌, ◌<◌}
use native.Mathlib.Omega.{arith}
use native.Mathlib.Numerals.{add-one}
use lib.ListN.{length, get_or}
use Rattle.defs.specs.Computing.Test.{list_from}
use Rattle.defs.specs.Computing.Cells.{Rows, in_rows, count_runs}
use Rattle.runs.specs.Runs.{Holds, Apart as ApartAt}
use Rattle.laws.proofs.Lists.{list_from_at, list_from_past, length-list_from}
use Rattle.geom.proofs.Strip.{lt_or_le}
use Rattle.geom.proofs.Stretches.{Among, among_of, of_among}
use Rattle.geom.proofs.RunLists.{Apart, ApartFrom, apart_valid}
use Rattle.tables.specs.Flat.{row_at, rows_from, rows_in, table_of, Flat, Occupied, Laid}
use Rattle.tables.proofs.Tables.{In, in_table, Table}

-- The n runs from run i on, in the arrays l and h.
module _ (l h : List ℕ) where
  holds_of : (i n y : ℕ) → Among (rows_from l h i n) y → Holds l h i (i + n) y
  unfolding rows_from list_from Among
  holds_of i zero y c = absurd c
  holds_of i (suc n) y c =
      ⊎_elim (λ a. record { which = i; from = omega arith; among = omega arith; low = a.0; high = a.1 })
      (λ a.
      let t = holds_of (suc i) n y a in
      record { which = t.which; from = omega (arith, t.from); among = omega (arith, t.among); low = t.low; high = t.high })
      c

  of_holds : (i n y : ℕ) → Holds l h i (i + n) y → Among (rows_from l h i n) y
  unfolding rows_from list_from Among
  of_holds i zero y t = absurd (omega (arith, t.from, t.among))
  of_holds i (suc n) y t =
      ⊎_elim
      (λ g. inr (of_holds (suc i) n y (record { which = t.which; from = g; among = omega (arith, t.among); low = t.low; high = t.high })))
      (λ g.
      let e : t.which ≡ i = omega (arith, t.from) in
      inl (subst (λ (k : ℕ). (get_or l k 0 ≤ y) × (y < get_or h k 0)) e (t.low, t.high)))
      (lt_or_le i t.which)

  apart_list : (b i n : ℕ) → ((k : ℕ) → i ≤ k → k < i + n → b ≤ get_or l k 0) → ApartAt l h i (i + n) → ApartFrom b (rows_from l h i n)
  unfolding rows_from list_from ApartFrom
  apart_list b i zero low a = tt
  apart_list b i (suc n) low a = (
    low i (omega arith) (omega arith),
    a.full i (omega arith) (omega arith),
    apart_list (get_or h i 0 + 1) (suc i) n (λ k x y. omega (arith, a.apart i k (omega arith) x (omega arith)))
        (record {
          full = λ k x y. a.full k (omega arith) (omega arith);
          apart = λ k m x y z. a.apart k m (omega arith) y (omega arith);
        }),
  )

  -- the lows are no less than b, and the runs are apart
  list_apart : (b i n : ℕ) → ApartFrom b (rows_from l h i n) →
      ((k : ℕ) → i ≤ k → k < i + n → b ≤ get_or l k 0) × ApartAt l h i (i + n)
  unfolding rows_from list_from ApartFrom
  list_apart b i zero a =
      (λ k x y. absurd (omega arith), record { full = λ k x y. absurd (omega arith); apart = λ k m x y z. absurd (omega arith) })
  list_apart b i (suc n) a = go (list_apart (get_or h i 0 + 1) (suc i) n a.2)
    where
      first : (P : ℕ → Type 0) (k : ℕ) → i ≤ k → P i → (suc i ≤ k → P k) → P k
      first P k x p q = ⊎_elim q (λ g. let e : i ≡ k = omega arith in subst P e p) (lt_or_le i k)

      go : ((k : ℕ) → suc i ≤ k → k < suc i + n → get_or h i 0 + 1 ≤ get_or l k 0) × ApartAt l h (suc i) (suc i + n) →
          ((k : ℕ) → i ≤ k → k < i + suc n → b ≤ get_or l k 0) × ApartAt l h i (i + suc n)
      go r = (
        λ k x y. first (λ k. b ≤ get_or l k 0) k x a.0 (λ g. omega (arith, a.0, a.1, r.0 k g (omega arith))),
        record {
          full = λ k x y. first (λ k. get_or l k 0 < get_or h k 0) k x a.1 (λ g. r.1.full k g (omega arith));
          apart =
              λ k m x y z.
              first (λ k. k < m → get_or h k 0 < get_or l m 0) k x (λ g. omega (arith, r.0 m g (omega arith)))
              (λ g u. r.1.apart k m g u (omega arith)) y;
        },
      )

-- column k of the table
pub column_flat : (f l h : List ℕ) {N k : ℕ} → k < N → get_or (table_of f l h N) k [] ≡ rows_in f l h k
unfolding table_of
column_flat f l h {N} {k} u = list_from_at (rows_in f l h) 0 N k [] u ∙ ap (rows_in f l h) (omega arith)

column_none : (f l h : List ℕ) {N k : ℕ} → N ≤ k → get_or (table_of f l h N) k [] ≡ []
unfolding table_of
column_none f l h {N} {k} u = list_from_past (rows_in f l h) 0 N k [] u

pub table_length : (f l h : List ℕ) (N : ℕ) → length (table_of f l h N) ≡ N
unfolding table_of
table_length f l h N = length-list_from (rows_in f l h) 0 N

-- what the table holds is in one of its columns
pub in_columns : (f l h : List ℕ) {N : ℕ} (k y : ℕ) → In (table_of f l h N) k y → k < N
in_columns f l h {N} k y e = omega (arith, in_table (table_of f l h N) k y e, table_length f l h N)

module _ {f l h : List ℕ} {N n : ℕ} (flat : Flat f l h N n) where
  -- the places rise
  firsts_rise : (i k : ℕ) → i + k ≤ N → get_or f i 0 ≤ get_or f (i + k) 0
  firsts_rise i zero u = let e : i + 0 ≡ i = omega arith in rw e (omega arith)
  firsts_rise i (suc k) u =
      let e : i + k + 1 ≡ i + suc k = omega arith in
      omega (arith, firsts_rise i k (omega arith), flat.rise (i + k) (omega arith), ap (λ (x : ℕ). get_or f x 0) e)

  -- no place is past the last run
  pub firsts_most : (k : ℕ) → k ≤ N → get_or f k 0 ≤ n
  firsts_most k u =
      let e : k + (N - k) ≡ N = omega arith in
      omega (arith, firsts_rise k (N - k) (omega arith), ap (λ (x : ℕ). get_or f x 0) e, flat.last)

  -- a column's runs end where the next column's begin
  column_end : {k : ℕ} → k < N → get_or f k 0 + (get_or f (k + 1) 0 - get_or f k 0) ≡ get_or f (k + 1) 0
  column_end {k} u = omega (arith, flat.rise k u)

  -- the runs of column k
  pub column_count : (k : ℕ) → length (rows_in f l h k) ≡ get_or f (k + 1) 0 - get_or f k 0
  unfolding rows_from
  column_count k = length-list_from (row_at l h) (get_or f k 0) (get_or f (k + 1) 0 - get_or f k 0)

  -- the record after those of column k is the next column's first
  pub after_column : (k : ℕ) → k < N → get_or f k 0 + 1 + length (rows_in f l h k) ≡ get_or f (k + 1) 0 + 1
  after_column k b = omega (arith, column_count k, flat.rise k b)

  -- a table has as many runs as it says
  count_from : (k m : ℕ) → k + m ≤ N → count_runs (list_from (rows_in f l h) k m) + get_or f k 0 ≡ get_or f (k + m) 0
  unfolding count_runs list_from
  count_from k zero b = let e : k + 0 ≡ k = omega arith in rw e (omega arith)
  count_from k (suc m) b =
      let e : k + suc m ≡ suc k + m = omega arith in
      let next : get_or f (k + 1) 0 ≡ get_or f (suc k) 0 = ap (λ (x : ℕ). get_or f x 0) (add-one k) in
      rw e (omega (arith, after_column k (omega arith), next, count_from (suc k) m (omega arith)))

  pub count_is : count_runs (table_of f l h N) ≡ n
  unfolding table_of
  count_is =
      let e : 0 + N ≡ N = omega arith in
      omega (arith, rw e at (count_from 0 N (omega arith)), flat.start, flat.last)

  pub in_flat : {k : ℕ} → k < N → (y : ℕ) → Occupied f l h k y ↔ (in_rows (get_or (table_of f l h N) k []) y ≡ true)
  in_flat {k} u y = (
    λ o.
        subst (λ (rs : List Rows). in_rows rs y ≡ true) (sym (column_flat f l h u))
        (of_among _ y (of_holds l h (get_or f k 0) _ y (subst (λ (e : ℕ). Holds l h (get_or f k 0) e y) (sym (column_end u)) o))),
    λ e.
        subst (λ (e : ℕ). Holds l h (get_or f k 0) e y) (column_end u)
        (holds_of l h (get_or f k 0) _ y (among_of _ y (subst (λ (rs : List Rows). in_rows rs y ≡ true) (column_flat f l h u) e))),
  )

  pub apart_flat : {k : ℕ} → k < N → ApartAt l h (get_or f k 0) (get_or f (k + 1) 0) → Apart (get_or (table_of f l h N) k [])
  apart_flat {k} u a =
      subst Apart (sym (column_flat f l h u))
      (apart_list l h 0 (get_or f k 0) _ (λ i x y. omega arith) (subst (ApartAt l h (get_or f k 0)) (sym (column_end u)) a))

  pub flat_apart : {k : ℕ} → k < N → Apart (get_or (table_of f l h N) k []) → ApartAt l h (get_or f k 0) (get_or f (k + 1) 0)
  flat_apart {k} u a =
      subst (ApartAt l h (get_or f k 0)) (column_end u) (list_apart l h 0 (get_or f k 0) _ (subst Apart (column_flat f l h u) a)).1

  pub laid_of : {W : ℕ} → ((k : ℕ) → k < N → Apart (get_or (table_of f l h N) k [])) →
      ((k y : ℕ) → In (table_of f l h N) k y → y < W) → Laid f l h W N n
  laid_of apart below =
      record {
        flat = flat;
        runs = λ k u. flat_apart u (apart k u);
        within = λ k y u o. below k y ((in_flat u y).0 o);
      }

module _ {f l h : List ℕ} {W N n : ℕ} (laid : Laid f l h W N n) where
  pub table_apart : (k : ℕ) → Apart (get_or (table_of f l h N) k [])
  unfolding ApartFrom
  table_apart k =
      ⊎_elim (λ u. apart_flat laid.flat u (laid.runs k u)) (λ u. subst Apart (sym (column_none f l h u)) tt)
      (lt_or_le k N)

  pub table_flat : Table W N (table_of f l h N)
  table_flat =
      record {
        long = table_length f l h N;
        below =
            λ k y e.
            let u = in_columns f l h k y e in
            laid.within k y u ((in_flat laid.flat u y).1 e);
        valid = λ k. apart_valid 0 _ (table_apart k);
      }
