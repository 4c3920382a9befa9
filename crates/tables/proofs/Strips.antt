-- A well-formed strip: its runs and its free records are its Q records, its runs are apart, so that its table can be written, and strips
-- with the same runs hold the same cells.
-- Assumes nothing.
use mathlib.Core.Path.{◌≡◌, refl, sym, ap, ◌∙◌}
use mathlib.Core.Logic.Iff
use mathlib.Core.Logic.{◌↔◌}
use mathlib.Core.Bool.{true}
use mathlib.Core.List.{List, [], ◌∷◌}
use Prim.Native.Nat.{ℕ, zero, suc, ◌+◌, ◌≤◌, ◌<◌}
use native.Mathlib.Omega.{arith}
use native.Mathlib.Nat.{add-zero, zero-add, zero-lt-suc}
use native.Mathlib.Numerals.{add-one}
use native.Mathlib.Decide.{dec_lt, ℕ_discrete}
use lib.ListN.{length, get_or, length-append}
use Rattle.defs.specs.Meaning.Strip.{width_of, columns_of, first_of, low_of, high_of, next_of, Chained, here, further, InColumn, Holds}
use Rattle.defs.specs.Computing.Test.{list_from, chain_by, ends_by}
use Rattle.defs.specs.Computing.Cells.{Rows, count_runs}
use Rattle.defs.specs.Computing.Words.{occurrences, concat, well_formedb, rows_of, runs_of, columns_runs}
use Rattle.defs.specs.Computing.Calls.{Left}
use Rattle.geom.proofs.RunLists.{ApartFrom, Apart}
use Rattle.laws.proofs.Occurs.{occurs_later}
use Rattle.laws.proofs.Walks.{chain_step, ends_step}
use Rattle.laws.proofs.Formed.{records_in, list_of, ListsFormed, lists_decide, formed}
use Rattle.tables.proofs.Columns.{column_at, column_past}
use Rattle.tables.proofs.Held.{holds_table, table_of_lem}
use Rattle.tables.proofs.Once.{once_each, each_concat}
use Rattle.tables.proofs.Written.{Writable}

-- the records of a chain that ends are 1 to Q
chain_within : (next : ℕ → ℕ) (Q n r x : ℕ) → ends_by next Q n r ≡ true → 0 < occurrences x (chain_by next n r) →
    (0 < x) × (x ≤ Q)
unfolding chain_by occurrences
chain_within next Q zero r x e o = absurd (omega arith)
chain_within next Q (suc n) zero x e o = absurd (omega arith)
chain_within next Q (suc n) (suc r) x e o =
    let t = (ends_step next Q n (suc r) (zero-lt-suc r)).0 e in
    go t.0 (ℕ_discrete (suc r) x) (chain_within next Q n (next (suc r)) x t.1)
  where
    rest : List ℕ
    rest = chain_by next n (next (suc r))

    go : suc r ≤ Q → Dec (suc r ≡ x) → (0 < occurrences x rest → (0 < x) × (x ≤ Q)) → (0 < x) × (x ≤ Q)
    go l (yes q) f = omega arith
    go l (no q) f = f (rw (chain_step next n (suc r) (zero-lt-suc r), occurs_later x (suc r) rest q) at o)

length_rows : (s rs : List ℕ) → length (rows_of s rs) ≡ length rs
unfolding rows_of
length_rows s [] = refl
length_rows s (r ∷ rs) = ap suc (length_rows s rs)

-- the chains from chain k on are the runs of n columns, and one more
length_chains : (s : List ℕ) (k n : ℕ) →
    length (concat (list_from (list_of s) k (suc n))) ≡ length (list_of s (k + n)) + count_runs (list_from (runs_of s) k n)
unfolding concat list_from count_runs runs_of
length_chains s k zero = rw (add-zero k) (omega (arith, length-append (list_of s k) []))
length_chains s k (suc n) =
    let e : k + suc n ≡ suc k + n = omega arith in
    rw e
    (omega (
      arith,
      length-append (list_of s k) (concat (list_from (list_of s) (suc k) (suc n))),
      length_rows s (list_of s k),
      length_chains s (suc k) n,
    ))

-- the runs of a column's chain from record r on are apart, and begin at row b or later where record r does
chain_apart : (s : List ℕ) (k n b r : ℕ) → ((x : ℕ) → Chained s x r → InColumn s k x) → (0 < r → b ≤ low_of s r) →
    ApartFrom b (rows_of s (chain_by (next_of s) n r))
unfolding ApartFrom rows_of chain_by
chain_apart s k zero b r c h = tt
chain_apart s k (suc n) b zero c h = tt
chain_apart s k (suc n) b (suc r) c h =
    let p = zero-lt-suc r in
    let i = c (suc r) (here p) in
    rw (chain_step (next_of s) n (suc r) p) (
      h p,
      i.some,
      chain_apart s k n (high_of s (suc r) + 1) (next_of s (suc r)) (λ x d. c x (further p d)) (λ q. omega (arith, i.apart q)),
    )

module _ (s : List ℕ) (w : well_formedb s ≡ true) where
  lists : ListsFormed s
  lists = (lists_decide s).0 w

  -- the number of free records is Q less the runs: each of 1 to Q is in one chain, and chains hold no other record
  pub free_count : length (list_of s (columns_of s)) + count_runs (columns_runs s) ≡ records_in s
  unfolding columns_runs
  free_count =
      let all =
      once_each (records_in s) (concat (list_from (list_of s) 0 (columns_of s + 1)))
      (each_concat _ (list_of s) 0 (columns_of s + 1)
      (λ k x h o. chain_within (next_of s) (records_in s) (records_in s) (first_of s k) x (lists.ends k (omega arith)) o))
      lists.once in
      sym (rw (zero-add (columns_of s)) at (length_chains s 0 (columns_of s))) ∙ rw (add-one (columns_of s)) at all

  -- the runs of a column are apart and rising
  pub runs_apart : (k : ℕ) → k < columns_of s → Apart (get_or (columns_runs s) k [])
  unfolding runs_of
  runs_apart k h =
      rw (column_at s k h)
      (chain_apart s k (records_in s) 0 (first_of s k) (λ x c. (formed s w).columns k x h c) (λ p. omega arith))

  -- its table can be written, so that `written_left` gives a strip with its figures and runs
  pub writable_of : Writable (width_of s) (columns_of s) (records_in s) (columns_runs s)
  writable_of =
      record {
        long = (table_of_lem s w).long;
        apart = runs_apart;
        below = λ k j h. (table_of_lem s w).below k j;
        fits = omega (arith, free_count);
      }

-- any two strips that a call may leave hold the same cells
pub same_cells : (W R N g words : ℕ) (runs : ℕ → List Rows) (s s' : List ℕ) → Left W R N g words runs s →
    Left W R N g words runs s' → (i j : ℕ) → Holds s i j ↔ Holds s' i j
same_cells W R N g words runs s s' l l' i j =
    Iff.trans (holds_table s l.well_formed i j)
    (rw (go (dec_lt i N)) (Iff.symm (holds_table s' l'.well_formed i j)))
  where
    go : Dec (i < N) → get_or (columns_runs s) i [] ≡ get_or (columns_runs s') i []
    go (yes h) = at s l h ∙ sym (at s' l' h)
      where
        at : (t : List ℕ) → Left W R N g words runs t → i < N → get_or (columns_runs t) i [] ≡ runs i
        at t m h = column_at t i (omega (arith, m.columns)) ∙ m.holds i h
    go (no h) = column_past s i (omega (arith, l.columns)) ∙ sym (column_past s' i (omega (arith, l'.columns)))
