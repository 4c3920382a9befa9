-- Two strips with the same figures and the same runs: the record at a place of a chain of the one goes to the record at that place of
-- the same chain of the other. The chains are as long, since a column's records are its runs, and the free records are the rest of the Q.
-- Assumes nothing.
use mathlib.Core.Path.{◌≡◌, refl, sym, ap, subst, subst₂, ◌∙◌}
use mathlib.Core.Logic.{◌≢◌}
use mathlib.Core.Bool.{true, cond}
use mathlib.Core.List.{List, [], ◌∷◌}
use Prim.Native.Nat.{ℕ, zero, suc, ◌+◌, ◌≤◌, ◌<◌}
use native.Mathlib.Omega.{arith}
use native.Mathlib.Nat.{zero-lt-suc}
use native.Mathlib.Decide.{dec_lt, ℕ_discrete}
use lib.Dec.{eqb}
use lib.ListN.{length, get_or}
use borrow.Author.Tests.{eq-eqb, ne_eqb}
use Rattle.defs.specs.Meaning.Limits.{Between}
use Rattle.defs.specs.Meaning.Strip.{Length, columns_of, first_of, column_of, low_of, high_of, next_of, Chained, here, further, Ends, zero_ends, goes_on}
use Rattle.defs.specs.Computing.Test.{list_from, chain_by, ends_by}
use Rattle.defs.specs.Computing.Cells.{Rows, count_runs}
use Rattle.defs.specs.Computing.Words.{occurrences, well_formedb, records_of, rows_of, runs_of, columns_runs}
use Rattle.defs.specs.Computing.Calls.{Left, OpenLeaves, PlaceLeaves, CommitLeaves}
use Rattle.defs.specs.Computing.Lay.{LayLeaves}
use Rattle.laws.proofs.Occurs.{occurs_at, occurs_first, occurs_later}
use Rattle.laws.proofs.Chains.{chained_of}
use Rattle.laws.proofs.Complete.{at_most_once}
use Rattle.laws.proofs.Formed.{records_in, list_of, lists_decide, listed, formed}
use Rattle.laws.proofs.Questions.{records_are}
use Rattle.laws.proofs.Walks.{chain_step, ends_step, no_room}
use Rattle.tables.proofs.Strips.{free_count}
use Rattle.claims.specs.Choice.{Renumbered, OnlyNumbersOpen}

-- where a number stands in a list
index : ℕ → List ℕ → ℕ
index x [] = 0
index x (y ∷ ys) = cond (eqb y x) 0 (suc (index x ys))

record At (x : ℕ) (xs : List ℕ) : Type 0 where
  below : index x xs < length xs
  is : get_or xs (index x xs) 0 ≡ x

index_of : (x : ℕ) (xs : List ℕ) → 0 < occurrences x xs → At x xs
unfolding index occurrences
index_of x [] o = absurd (omega arith)
index_of x (y ∷ ys) o = go (ℕ_discrete y x) (index_of x ys)
  where
    go : Dec (y ≡ x) → (0 < occurrences x ys → At x ys) → At x (y ∷ ys)
    go (yes e) k = record { below = rw (eq-eqb y x e) (omega arith); is = rw (eq-eqb y x e) e }
    go (no e) k =
        let t = k (rw (occurs_later x y ys e) at o) in
        record { below = rw (ne_eqb y x e) (omega (arith, t.below)); is = rw (ne_eqb y x e) t.is }

index_at : (xs : List ℕ) (j : ℕ) → j < length xs → ((x : ℕ) → occurrences x xs ≤ 1) → index (get_or xs j 0) xs ≡ j
unfolding index
index_at [] j l once = absurd (omega arith)
index_at (y ∷ ys) zero l once = rw (eq-eqb y y refl) refl
index_at (y ∷ ys) (suc j) l once = go (ℕ_discrete y (get_or ys j 0)) (index_at ys j (omega arith))
  where
    less : (x : ℕ) → y ≢ x → occurrences x ys ≤ 1
    less x n = omega (arith, once x, occurs_later x y ys n)

    here_only : (x : ℕ) → Dec (y ≡ x) → occurrences x ys ≤ 1
    here_only x (yes e) = omega (arith, once y, occurs_first y ys, ap (λ (z : ℕ). occurrences z ys) e)
    here_only x (no e) = less x e

    go : Dec (y ≡ get_or ys j 0) → (((x : ℕ) → occurrences x ys ≤ 1) → index (get_or ys j 0) ys ≡ j) →
        index (get_or (y ∷ ys) (suc j) 0) (y ∷ ys) ≡ suc j
    go (yes e) k =
        absurd (omega (arith, once y, occurs_first y ys, occurs_at ys j (omega arith), ap (λ (z : ℕ). occurrences z ys) e))
    go (no e) k = rw (ne_eqb y (get_or ys j 0) e) (ap suc (k (λ x. here_only x (ℕ_discrete y x))))

-- a chain that ends, as a list: its first, and what comes after each
module _ (next : ℕ → ℕ) (Q : ℕ) where
  head_is : (n r : ℕ) → ends_by next Q n r ≡ true → get_or (chain_by next n r) 0 0 ≡ r
  unfolding chain_by
  head_is zero zero e = refl
  head_is zero (suc r) e = absurd (no_room next Q (suc r) (zero-lt-suc r) e)
  head_is (suc n) zero e = refl
  head_is (suc n) (suc r) e = rw (chain_step next n (suc r) (zero-lt-suc r)) refl

  next_is : (n r j : ℕ) → ends_by next Q n r ≡ true → j < length (chain_by next n r) →
      get_or (chain_by next n r) (suc j) 0 ≡ next (get_or (chain_by next n r) j 0)
  unfolding chain_by
  next_is zero r j e l = absurd (omega arith)
  next_is (suc n) zero j e l = absurd (omega arith)
  next_is (suc n) (suc r) j e l =
      let t = (ends_step next Q n (suc r) (zero-lt-suc r)).0 e in
      let one = chain_step next n (suc r) (zero-lt-suc r) in
      rw one (go j (rw one at l) (head_is n (next (suc r)) t.1) (λ i. next_is n (next (suc r)) i t.1))
    where
      rest : List ℕ
      rest = chain_by next n (next (suc r))

      go : (j : ℕ) → j < suc (length rest) → get_or rest 0 0 ≡ next (suc r) →
          ((i : ℕ) → i < length rest → get_or rest (suc i) 0 ≡ next (get_or rest i 0)) →
          get_or (suc r ∷ rest) (suc j) 0 ≡ next (get_or (suc r ∷ rest) j 0)
      go zero l h k = h
      go (suc j) l h k = k j (omega arith)

pub chained_positive : {s : List ℕ} {x r : ℕ} → Chained s x r → 0 < x
chained_positive (here h) = h
chained_positive (further h c) = chained_positive c

pub stays_within : {s : List ℕ} {Q x r : ℕ} → Ends s Q r → Chained s x r → x ≤ Q
stays_within zero_ends (here h) = omega arith
stays_within zero_ends (further h c) = absurd (omega arith)
stays_within (goes_on h l e) (here g) = l
stays_within (goes_on h l e) (further g c) = stays_within e c

-- record number j of chain k
abbrev nth : List ℕ → ℕ → ℕ → ℕ
nth s k j = get_or (list_of s k) j 0

-- where record r stands
record Stands (s : List ℕ) (r : ℕ) : Type 0 where
  chain : ℕ
  is_one : chain ≤ columns_of s
  place : ℕ
  below : place < length (list_of s chain)
  is : nth s chain place ≡ r

module _ (s : List ℕ) (w : well_formedb s ≡ true) where
  ends_by_lem : (k : ℕ) → k ≤ columns_of s → ends_by (next_of s) (records_in s) (records_in s) (first_of s k) ≡ true
  ends_by_lem k h = ((lists_decide s).0 w).ends k (omega arith)

  chained_at : (k j : ℕ) → j < length (list_of s k) → Chained s (nth s k j) (first_of s k)
  chained_at k j l = chained_of s (nth s k j) (records_in s) (first_of s k) (occurs_at (list_of s k) j l)

  between : (k j : ℕ) → k ≤ columns_of s → j < length (list_of s k) → Between 1 (nth s k j) (records_in s)
  between k j h l =
      record { at_least = chained_positive (chained_at k j l); at_most = stays_within ((formed s w).ends k h) (chained_at k j l) }

  first_is : (k : ℕ) → k ≤ columns_of s → nth s k 0 ≡ first_of s k
  first_is k h = head_is (next_of s) (records_in s) (records_in s) (first_of s k) (ends_by_lem k h)

  after_is : (k j : ℕ) → k ≤ columns_of s → j < length (list_of s k) → nth s k (suc j) ≡ next_of s (nth s k j)
  after_is k j h l = next_is (next_of s) (records_in s) (records_in s) (first_of s k) j (ends_by_lem k h) l

  place_is : (k j : ℕ) → k ≤ columns_of s → j < length (list_of s k) → index (nth s k j) (list_of s k) ≡ j
  place_is k j h l = index_at (list_of s k) j l (at_most_once s (records_in s) ((formed s w).ends k h) (records_in s))

  stands : (r : ℕ) → Between 1 r (records_in s) → Stands s r
  stands r b =
      let o = (formed s w).one_chain r b.at_least b.at_most in
      let i = index_of r (list_of s o.chain) (listed s w o.chain r o.is_one o.holds) in
      record { chain = o.chain; is_one = o.is_one; place = index r (list_of s o.chain); below = i.below; is = i.is }

  -- the chain of record r
  chain_of_lem : (r : ℕ) → Dec (0 < r) → Dec (r < suc (records_in s)) → ℕ
  chain_of_lem r (yes l) (yes h) = ((formed s w).one_chain r l (omega arith)).chain
  chain_of_lem r (yes l) (no h) = 0
  chain_of_lem r (no l) d = 0

  chain_of : ℕ → ℕ
  chain_of r = chain_of_lem r (dec_lt 0 r) (dec_lt r (suc (records_in s)))

  chain_is : (k j : ℕ) → k ≤ columns_of s → j < length (list_of s k) → chain_of (nth s k j) ≡ k
  unfolding chain_of chain_of_lem
  chain_is k j h l = go (dec_lt 0 (nth s k j)) (dec_lt (nth s k j) (suc (records_in s)))
    where
      go : (d : Dec (0 < nth s k j)) (e : Dec (nth s k j < suc (records_in s))) → chain_of_lem (nth s k j) d e ≡ k
      go (yes p) (yes q) = sym (((formed s w).one_chain (nth s k j) p (omega arith)).no_other k h (chained_at k j l))
      go (yes p) (no q) = absurd (omega (arith, (between k j h l).at_most))
      go (no p) e = absurd (omega (arith, (between k j h l).at_least))

-- record r of s as it is numbered in s'
renumber : (s : List ℕ) → well_formedb s ≡ true → List ℕ → ℕ → ℕ
renumber s w s' r = cond (eqb r 0) 0 (nth s' (chain_of s w r) (index r (list_of s (chain_of s w r))))

renumber_0 : (s : List ℕ) (w : well_formedb s ≡ true) (s' : List ℕ) → renumber s w s' 0 ≡ 0
unfolding renumber
renumber_0 s w s' = refl

renumber_at : (s : List ℕ) (w : well_formedb s ≡ true) (s' : List ℕ) (k j : ℕ) → k ≤ columns_of s → j < length (list_of s k) →
    renumber s w s' (nth s k j) ≡ nth s' k j
unfolding renumber
renumber_at s w s' k j h l =
    rw (ne_eqb (nth s k j) 0 (λ e. omega (arith, (between s w k j h l).at_least)), chain_is s w k j h l, place_is s w k j h l)

-- the chains of two strips with the same figures and runs

rows_long : (s rs : List ℕ) → length (rows_of s rs) ≡ length rs
unfolding rows_of
rows_long s [] = refl
rows_long s (r ∷ rs) = ap suc (rows_long s rs)

rows_at : (s rs : List ℕ) (j : ℕ) (d : Rows) → j < length rs →
    get_or (rows_of s rs) j d ≡ record { low = low_of s (get_or rs j 0); high = high_of s (get_or rs j 0) }
unfolding rows_of
rows_at s [] j d l = absurd (omega arith)
rows_at s (r ∷ rs) zero d l = refl
rows_at s (r ∷ rs) (suc j) d l = rows_at s rs j d (omega arith)

same_from : {A : Type 0} (f g : ℕ → A) (k n : ℕ) → ((i : ℕ) → k ≤ i → i < k + n → f i ≡ g i) → list_from f k n ≡ list_from g k n
unfolding list_from
same_from f g k zero h = refl
same_from f g k (suc n) h =
    let e = h k (omega arith) (omega arith) in
    let r = same_from f g (suc k) n (λ i l m. h i (omega arith) (omega arith)) in
    rw (e, r)

past_end : (xs : List ℕ) (j : ℕ) → length xs ≤ j → ◌≡◌ {A = ℕ} (get_or xs j 0) 0
past_end [] j l = refl
past_end (x ∷ xs) zero l = absurd (omega arith)
past_end (x ∷ xs) (suc j) l = past_end xs j (omega arith)

module _ {W R N g words : ℕ} {runs : ℕ → List Rows} {s s' : List ℕ} (a : Left W R N g words runs s) (b : Left W R N g words runs s') where
  same_columns : columns_of s' ≡ columns_of s
  same_columns = b.columns ∙ sym a.columns

  same_records : records_in s' ≡ records_in s
  same_records =
      ap (λ (n : ℕ). records_of n (length s')) same_columns ∙ ap (λ (n : ℕ). records_of (columns_of s) n) (b.long ∙ sym a.long)

  same_runs : (k : ℕ) → k < columns_of s → runs_of s k ≡ runs_of s' k
  same_runs k h = a.holds k (omega (arith, a.columns)) ∙ sym (b.holds k (omega (arith, a.columns)))

  same_table : columns_runs s ≡ columns_runs s'
  unfolding columns_runs
  same_table =
      same_from (runs_of s) (runs_of s') 0 (columns_of s) (λ i l m. same_runs i (omega arith)) ∙
      ap (list_from (runs_of s') 0) (sym same_columns)

  same_long : (k : ℕ) → k ≤ columns_of s → length (list_of s k) ≡ length (list_of s' k)
  unfolding runs_of
  same_long k h = go (dec_lt k (columns_of s))
    where
      go : Dec (k < columns_of s) → length (list_of s k) ≡ length (list_of s' k)
      go (yes l) = sym (rows_long s (list_of s k)) ∙ ap length (same_runs k l) ∙ rows_long s' (list_of s' k)
      go (no l) =
          let e : k ≡ columns_of s = omega arith in
          let f : k ≡ columns_of s' = e ∙ sym same_columns in
          let x = free_count s a.well_formed in
          let y = free_count s' b.well_formed in
          omega (
            arith,
            ap (λ (n : ℕ). length (list_of s n)) e,
            ap (λ (n : ℕ). length (list_of s' n)) f,
            x,
            y,
            same_records,
            ap count_runs same_table,
          )

  Q : ℕ
  Q = records_in s

  to : ℕ → ℕ
  to = renumber s a.well_formed s'

  back : ℕ → ℕ
  back = renumber s' b.well_formed s

  in_range : (k : ℕ) → k ≤ columns_of s → k ≤ columns_of s'
  in_range k h = omega (arith, same_columns)

  in_chain : (k j : ℕ) → k ≤ columns_of s → j < length (list_of s k) → j < length (list_of s' k)
  in_chain k j h l = omega (arith, same_long k h)

  to_at : (k j : ℕ) → k ≤ columns_of s → j < length (list_of s k) → to (nth s k j) ≡ nth s' k j
  unfolding to
  to_at k j h l = renumber_at s a.well_formed s' k j h l

  back_at : (k j : ℕ) → k ≤ columns_of s → j < length (list_of s k) → back (nth s' k j) ≡ nth s k j
  unfolding back
  back_at k j h l = renumber_at s' b.well_formed s k j (in_range k h) (in_chain k j h l)

  to_0 : to 0 ≡ 0
  unfolding to
  to_0 = renumber_0 s a.well_formed s'

  -- also past a chain's end, where both are 0
  to_any : (k j : ℕ) → k ≤ columns_of s → to (nth s k j) ≡ nth s' k j
  to_any k j h = go (dec_lt j (length (list_of s k)))
    where
      go : Dec (j < length (list_of s k)) → to (nth s k j) ≡ nth s' k j
      go (yes l) = to_at k j h l
      go (no l) = ap to (past_end (list_of s k) j (omega arith)) ∙ to_0 ∙ sym (past_end (list_of s' k) j (omega (arith, same_long k h)))

  between' : (k j : ℕ) → k ≤ columns_of s → j < length (list_of s k) → Between 1 (nth s' k j) Q
  unfolding Q
  between' k j h l =
      subst (λ (n : ℕ). Between 1 (nth s' k j) n) same_records (between s' b.well_formed k j (in_range k h) (in_chain k j h l))

  there : (r : ℕ) → Between 1 r Q → Between 1 (to r) Q × (back (to r) ≡ r)
  unfolding Q
  there r m =
      let t = stands s a.well_formed r m in
      let e = ap to (sym t.is) ∙ to_at t.chain t.place t.is_one t.below in (
        rw e (between' t.chain t.place t.is_one t.below),
        ap back e ∙ back_at t.chain t.place t.is_one t.below ∙ t.is,
      )

  -- where a record of s' stands, by the chains of s
  stands' : (r : ℕ) → Between 1 r Q → (k : ℕ) × (j : ℕ) × (k ≤ columns_of s) × (j < length (list_of s k)) × (nth s' k j ≡ r)
  unfolding Q
  stands' r m =
      let t = stands s' b.well_formed r (subst (λ (n : ℕ). Between 1 r n) (sym same_records) m) in
      let h : t.chain ≤ columns_of s = omega (arith, t.is_one, same_columns) in
      (t.chain, t.place, h, omega (arith, t.below, same_long t.chain h), t.is)

  back_there : (r : ℕ) → Between 1 r Q → Between 1 (back r) Q × (to (back r) ≡ r)
  unfolding Q
  back_there r m =
      let t = stands' r m in
      let e = ap back (sym t.4) ∙ back_at t.0 t.1 t.2 t.3 in
      (rw e (between s a.well_formed t.0 t.1 t.2 t.3), ap to e ∙ to_at t.0 t.1 t.2 t.3 ∙ t.4)

  firsts : (k : ℕ) → k ≤ columns_of s → first_of s' k ≡ to (first_of s k)
  firsts k h =
      sym (first_is s' b.well_formed k (in_range k h)) ∙ sym (to_any k 0 h) ∙ ap to (first_is s a.well_formed k h)

  -- what is asked of each record, by its chain and place
  by_place : (P : ℕ → ℕ → Type 0) → ((k j : ℕ) → k ≤ columns_of s → j < length (list_of s k) → P (nth s k j) (nth s' k j)) →
      (r : ℕ) → Between 1 r Q → P r (to r)
  unfolding Q
  by_place P f r m =
      let t = stands s a.well_formed r m in
      let e = ap to (sym t.is) ∙ to_at t.chain t.place t.is_one t.below in
      subst₂ P t.is (sym e) (f t.chain t.place t.is_one t.below)

  nexts : (r : ℕ) → Between 1 r Q → next_of s' (to r) ≡ to (next_of s r)
  nexts =
      by_place (λ r r'. next_of s' r' ≡ to (next_of s r))
      (λ k j h l.
      sym (after_is s' b.well_formed k j (in_range k h) (in_chain k j h l)) ∙ sym (to_any k (suc j) h) ∙
      ap to (after_is s a.well_formed k j h l))

  -- a record of a column has that column and its run; a free one has column N and zeros
  record Words (r r' : ℕ) : Type 0 where
    column : column_of s' r' ≡ column_of s r
    low : low_of s' r' ≡ low_of s r
    high : high_of s' r' ≡ high_of s r

  words_at : (k j : ℕ) → k ≤ columns_of s → j < length (list_of s k) → Words (nth s k j) (nth s' k j)
  unfolding runs_of
  words_at k j h l = go (dec_lt k (columns_of s))
    where
      go : Dec (k < columns_of s) → Words (nth s k j) (nth s' k j)
      go (yes c) =
          let none : Rows = record { low = 0; high = 0 } in
          let x = (formed s a.well_formed).columns k (nth s k j) c (chained_at s a.well_formed k j l) in
          let y =
          (formed s' b.well_formed).columns k (nth s' k j) (omega (arith, same_columns))
          (chained_at s' b.well_formed k j (in_chain k j h l)) in
          let e =
          sym (rows_at s' (list_of s' k) j none (in_chain k j h l)) ∙ ap (λ (rs : List Rows). get_or rs j none) (sym (same_runs k c)) ∙
          rows_at s (list_of s k) j none l in
          record { column = y.column ∙ sym x.column; low = ap (λ (q : Rows). q.low) e; high = ap (λ (q : Rows). q.high) e }
      go (no c) =
          let e : k ≡ columns_of s = omega arith in
          let f : k ≡ columns_of s' = e ∙ sym same_columns in
          let x =
          (formed s a.well_formed).free (nth s k j)
          (subst (λ (n : ℕ). Chained s (nth s k j) (first_of s n)) e (chained_at s a.well_formed k j l)) in
          let y =
          (formed s' b.well_formed).free (nth s' k j)
          (subst (λ (n : ℕ). Chained s' (nth s' k j) (first_of s' n)) f (chained_at s' b.well_formed k j (in_chain k j h l))) in
          record {
            column = y.column ∙ same_columns ∙ sym x.column;
            low = y.low ∙ sym x.low;
            high = y.high ∙ sym x.high;
          }

  pub renumbered : Renumbered (records_in s) s s'
  unfolding Q
  renumbered =
      record {
        long = b.long ∙ sym a.long;
        width = b.width ∙ sym a.width;
        resolution = b.resolution ∙ sym a.resolution;
        columns = same_columns;
        gap = b.gap ∙ sym a.gap;
        to = to;
        back = back;
        there_and_back = there;
        back_and_there = back_there;
        zero_stays = to_0;
        first = firsts;
        column = λ r m. (by_place Words words_at r m).column;
        low = λ r m. (by_place Words words_at r m).low;
        high = λ r m. (by_place Words words_at r m).high;
        next = nexts;
      }

  -- Q by the words lent
  pub renumbered_by : (q : ℕ) → Length N q words → Renumbered q s s'
  renumbered_by q l =
      subst (λ (n : ℕ). Renumbered n s s')
      (ap (λ (n : ℕ). records_of n (length s)) a.columns ∙ ap (records_of N) a.long ∙ records_are N q words l) renumbered

pub only_numbers_open : OnlyNumbersOpen
unfolding OpenLeaves PlaceLeaves CommitLeaves LayLeaves
only_numbers_open =
    record {
      open_leaves = λ {W} {R} {N} {g} {Q} l x y. renumbered_by x.strip y.strip Q l;
      place_leaves = λ {Q} l x y. renumbered_by x.strip y.strip Q l;
      commit_leaves = λ {Q} l x y. renumbered_by x.strip y.strip Q l;
      lay_leaves = λ {g} {Q} l x y. renumbered_by x.strip y.strip Q l;
    }
