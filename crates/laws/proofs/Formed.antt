-- The test of question 5 says that the strip is well formed: it lists each chain, and where a chain ends, the list holds what
-- the chain holds. The other way round is in Complete.
-- Assumes nothing.
use mathlib.Core.Path.{◌≡◌}
use mathlib.Core.Bool.{true}
use mathlib.Core.List.{List}
use Prim.Native.Nat.{ℕ, zero, suc, ◌+◌, ◌≤◌, ◌<◌}
use native.Mathlib.Omega.{arith}
use lib.ListN.{length}
use Rattle.defs.specs.Meaning.Limits.{most_gap}
use Rattle.defs.specs.Meaning.Strip.{Limits, Length, width_of, resolution_of, columns_of, gap_of, first_of, next_of, Chained, InColumn, IsFree, InOneChain, WellFormed}
use Rattle.defs.specs.Computing.Test.{list_from, chain_by, ends_by}
use Rattle.defs.specs.Computing.Words.{records_of, occurrences, in_columnb, is_freeb, concat, well_formedb}
use Rattle.laws.proofs.Tests.{Decides, leb_decides, ltb_decides, eqb_decides, and_decides, all_to_decides, unless_zero, decides_by}
use Rattle.laws.proofs.Questions.{limits_decides, question_21, length_decides}
use Rattle.laws.proofs.Occurs.{all_occurring_decides, once_is_only_in}
use Rattle.laws.proofs.Chains.{ends_of, occurs_of, chained_of}

-- Q of a strip, and its chain k, listed
abbrev pub records_in : List ℕ → ℕ
records_in s = records_of (columns_of s) (length s)

abbrev pub list_of : List ℕ → ℕ → List ℕ
list_of s k = chain_by (next_of s) (records_in s) (first_of s k)

module _ (s : List ℕ) where
  column_decides : (k r : ℕ) → Decides (in_columnb s k r) (InColumn s k r)
  unfolding in_columnb
  column_decides k r =
      decides_by (λ h. record { column = h.0.0; some = h.0.1; fits = h.1.0; apart = h.1.1 })
      (λ c. ((c.column, c.some), (c.fits, c.apart)))
      (and_decides (and_decides (eqb_decides _ _) (ltb_decides _ _))
      (and_decides (leb_decides _ _) (unless_zero _ (ltb_decides _ _))))

  free_decides : (r : ℕ) → Decides (is_freeb s r) (IsFree s r)
  unfolding is_freeb
  free_decides r =
      decides_by (λ h. record { column = h.0; low = h.1.0; high = h.1.1 }) (λ f. (f.column, (f.low, f.high)))
      (and_decides (eqb_decides _ _) (and_decides (eqb_decides _ _) (eqb_decides _ _)))

  -- what the test asks of the listed chains
  pub record ListsFormed : Type 0 where
    pub long : Length (columns_of s) (records_in s) (length s)
    pub limits : Limits (width_of s) (resolution_of s) (columns_of s)
    pub gap : gap_of s ≤ most_gap
    pub ends : (k : ℕ) → k < columns_of s + 1 → ends_by (next_of s) (records_in s) (records_in s) (first_of s k) ≡ true
    pub columns : (k : ℕ) → k < columns_of s → (r : ℕ) → 0 < occurrences r (list_of s k) → InColumn s k r
    pub frees : (r : ℕ) → 0 < occurrences r (list_of s (columns_of s)) → IsFree s r
    pub once : (r : ℕ) → r < records_in s → occurrences (r + 1) (concat (list_from (list_of s) 0 (columns_of s + 1))) ≡ 1

  pub lists_decide : Decides (well_formedb s) ListsFormed
  unfolding well_formedb
  lists_decide =
      decides_by
      (λ h.
      record {
        long = h.0.0;
        limits = h.0.1.0;
        gap = h.0.1.1;
        ends = h.1.0;
        columns = h.1.1.0;
        frees = h.1.1.1.0;
        once = h.1.1.1.1;
      })
      (λ p. ((p.long, (p.limits, p.gap)), (p.ends, (p.columns, (p.frees, p.once)))))
      (and_decides (and_decides (length_decides _ _) (and_decides (limits_decides _ _ _) (question_21 _)))
      (and_decides (all_to_decides _ _ _ (λ k h. (λ e. e, λ e. e)))
      (and_decides (all_to_decides _ _ _ (λ k h. all_occurring_decides _ _ (column_decides k) _))
      (and_decides (all_occurring_decides _ _ free_decides _) (all_to_decides _ _ _ (λ r h. eqb_decides _ _))))))

module _ (s : List ℕ) (w : well_formedb s ≡ true) where
  lists : ListsFormed s
  lists = (lists_decide s).0 w

  pub listed : (k r : ℕ) → k ≤ columns_of s → Chained s r (first_of s k) → 0 < occurrences r (list_of s k)
  listed k r h c = occurs_of s (records_in s) r (records_in s) (first_of s k) (lists.ends k (omega arith)) c

  in_one_chain : (r : ℕ) → 1 ≤ r → r ≤ records_in s → InOneChain s r
  in_one_chain zero l h = absurd (omega arith)
  in_one_chain (suc r) l h =
      let e : r + 1 ≡ suc r = omega arith in
      let o = (once_is_only_in (list_of s) (suc r) 0 (columns_of s + 1)).0 (rw e at (lists.once r h)) in
      record {
        chain = o.place;
        is_one = omega (arith, o.to);
        holds = chained_of s (suc r) (records_in s) (first_of s o.place) (omega (arith, o.occurs));
        no_other = λ k hk c. o.only k (omega arith) (omega arith) (listed k (suc r) hk c);
      }

  pub formed : WellFormed s (records_in s)
  formed =
      record {
        long = lists.long;
        limits = lists.limits;
        gap = lists.gap;
        ends = λ k h. ends_of s (records_in s) (records_in s) (first_of s k) (lists.ends k (omega arith));
        columns = λ k r h c. lists.columns k h r (listed k r (omega arith) c);
        free = λ r c. lists.frees r (listed (columns_of s) r (omega arith) c);
        one_chain = in_one_chain;
      }
