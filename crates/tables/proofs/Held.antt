-- The table of a well-formed strip's runs holds what the strip holds, and lies within its width.
-- Assumes nothing.
use mathlib.Core.Path.{◌≡◌, refl, sym, ap, subst, ◌∙◌}
use mathlib.Core.Logic.{◌↔◌}
use mathlib.Core.Bool.{Bool, true, false, cond, ◌&&◌, ◌||◌, false≢true}
use mathlib.Core.List.{List, [], ◌∷◌}
use Prim.Native.Nat.{ℕ, suc, ◌+◌, ◌≤◌, ◌<◌}
use native.Mathlib.Omega.{arith}
use native.Mathlib.Decide.{dec_lt}
use lib.Dec.{leb, ltb, eqb}
use lib.ListN.{length, get_or}
use Rattle.geom.proofs.Stretches.{Valid, no_rows}
use Rattle.laws.proofs.Lists.{length-list_from}
use Rattle.defs.specs.Meaning.Strip.{width_of, columns_of, first_of, low_of, high_of, next_of, Holds}
use Rattle.defs.specs.Computing.Test.{any, chain_by}
use Rattle.defs.specs.Computing.Cells.{Rows, in_rows}
use Rattle.defs.specs.Computing.Words.{records_of, occurrences, well_formedb, rows_of, runs_of, columns_runs}
use borrow.Author.Tests.{leb-true, ltb-true, eqb-true, le-leb}
use Rattle.laws.proofs.Tests.{and_left, and_right}
use Rattle.laws.proofs.Chains.{chained_of}
use Rattle.laws.proofs.Occurs.{occurs_here, occurs_there, without_zero}
use Rattle.tables.proofs.Columns.{column_at, column_past}
use Rattle.laws.proofs.Formed.{formed, listed}
use Rattle.tables.proofs.Tables.{In, Table}

pub record Row (s : List ℕ) (rs : List ℕ) (j : ℕ) : Type 0 where
  pub r : ℕ
  pub occurs : 0 < occurrences r rs
  pub low : low_of s r ≤ j
  pub high : j < high_of s r

find : (s rs : List ℕ) (j : ℕ) → in_rows (rows_of s rs) j ≡ true → Row s rs j
unfolding in_rows any rows_of occurrences
find s [] j e = absurd (false≢true e)
find s (r ∷ rs) j e = go (leb (low_of s r) j && ltb j (high_of s r)) refl (find s rs j)
  where
    go : (b : Bool) → (leb (low_of s r) j && ltb j (high_of s r)) ≡ b →
        (in_rows (rows_of s rs) j ≡ true → Row s rs j) → Row s (r ∷ rs) j
    go true q k =
        record {
          r = r;
          occurs = occurs_here r rs;
          low = leb-true _ _ (and_left (leb (low_of s r) j) _ q);
          high = ltb-true _ _ (and_right (leb (low_of s r) j) _ q);
        }
    go false q k =
        let t = k (subst (λ (b : Bool). (b || in_rows (rows_of s rs) j) ≡ true) q e) in
        record { r = t.r; occurs = omega (arith, t.occurs); low = t.low; high = t.high }

has : (s rs : List ℕ) (r j : ℕ) → 0 < occurrences r rs → low_of s r ≤ j → j < high_of s r → in_rows (rows_of s rs) j ≡ true
unfolding in_rows any rows_of occurrences
has s [] r j o l h = absurd (omega arith)
has s (x ∷ rs) r j o l h = go (eqb x r) refl (has s rs r j)
  where
    go : (b : Bool) → eqb x r ≡ b → (0 < occurrences r rs → low_of s r ≤ j → j < high_of s r → in_rows (rows_of s rs) j ≡ true) →
        ((leb (low_of s x) j && ltb j (high_of s x)) || in_rows (rows_of s rs) j) ≡ true
    go true q k =
        let e = eqb-true x r q in
        ap (λ (b : Bool). b || in_rows (rows_of s rs) j)
        (both (low_of s x) (high_of s x) (subst (λ (a : ℕ). low_of s a ≤ j) (sym e) l) (subst (λ (a : ℕ). j < high_of s a) (sym e) h))
      where
        both : (a b : ℕ) → a ≤ j → j < b → (leb a j && ltb j b) ≡ true
        both a b p p' = ap (λ (t : Bool). t && ltb j b) (le-leb a j p) ∙ le-leb (suc j) b p'
    go false q k =
        or_right (leb (low_of s x) j && ltb j (high_of s x))
        (k (without_zero (subst (λ (b : Bool). 0 < cond b 1 0 + occurrences r rs) q o)) l h)
      where
        or_right : (a : Bool) {b : Bool} → b ≡ true → (a || b) ≡ true
        or_right true e = refl
        or_right false e = e

occurs_valid : (s rs : List ℕ) → ((r : ℕ) → 0 < occurrences r rs → low_of s r < high_of s r) → Valid (rows_of s rs)
unfolding Valid rows_of
occurs_valid s [] h = tt
occurs_valid s (r ∷ rs) h = (h r (occurs_here r rs), occurs_valid s rs (λ x o. h x (occurs_there x r rs o)))

module _ (s : List ℕ) (w : well_formedb s ≡ true) where
  rows_of_lem : (i : ℕ) → i < columns_of s →
      get_or (columns_runs s) i [] ≡ rows_of s (chain_by (next_of s) (records_of (columns_of s) (length s)) (first_of s i))
  unfolding runs_of
  rows_of_lem i h = column_at s i h

  to_table : (i j : ℕ) → Holds s i j → In (columns_runs s) i j
  to_table i j c =
      subst (λ (rs : List Rows). in_rows rs j ≡ true) (sym (rows_of_lem i c.is_column))
      (has s _ c.record_number_lem j (listed s w i c.record_number_lem (omega (arith, c.is_column)) c.chained) c.from c.to)

  from_table : (i j : ℕ) → In (columns_runs s) i j → Holds s i j
  from_table i j e = go (dec_lt i (columns_of s))
    where
      go : Dec (i < columns_of s) → Holds s i j
      go (yes l) =
          let t = find s _ j (subst (λ (rs : List Rows). in_rows rs j ≡ true) (rows_of_lem i l) e) in
          record {
            record_number_lem = t.r;
            is_column = l;
            chained = chained_of s t.r _ (first_of s i) t.occurs;
            from = t.low;
            to = t.high;
          }
      go (no l) = absurd (no_rows j (subst (λ (rs : List Rows). in_rows rs j ≡ true) (column_past s i (omega arith)) e))

  pub holds_table : (i j : ℕ) → Holds s i j ↔ In (columns_runs s) i j
  holds_table i j = (to_table i j, from_table i j)

  rows_valid : (i : ℕ) → Valid (get_or (columns_runs s) i [])
  rows_valid i = go (dec_lt i (columns_of s))
    where
      go : Dec (i < columns_of s) → Valid (get_or (columns_runs s) i [])
      go (yes l) =
          subst Valid (sym (rows_of_lem i l))
          (occurs_valid s _ (λ r o. ((formed s w).columns i r l (chained_of s r _ (first_of s i) o)).some))
      go (no l) = subst Valid (sym (column_past s i (omega arith))) (unfold Valid in tt)

  pub table_of_lem : Table (width_of s) (columns_of s) (columns_runs s)
  unfolding columns_runs
  table_of_lem =
      record {
        long = length-list_from (runs_of s) 0 (columns_of s);
        valid = rows_valid;
        below =
            λ i j e.
            let c = from_table i j e in
            omega (arith, c.to, ((formed s w).columns i c.record_number_lem c.is_column c.chained).fits);
      }
