-- A table of columns, each a list of stretches apart, has as many stretches as runs: numbered column by column the stretches are the
-- numbers below their count, and by the pigeonhole principle the runs have no numbering with fewer. It has a stretch where it has a cell.
-- Assumes nothing.
use mathlib.Core.Path.{◌≡◌, ap, ap₂, sym, ◌∙◌}
use mathlib.Core.Logic.Iff
use mathlib.Core.Logic.{⊎_elim, ◌↔◌}
use mathlib.Core.Bool.{true, cond}
use mathlib.Core.List.{List, [], ◌∷◌}
use Prim.Native.Nat.{ℕ, zero, suc, ◌+◌, ◌-◌, ◌≤◌, ◌<◌}
use native.Mathlib.Omega.{arith}
use lib.Dec.{ltb}
use lib.ListN.{length, get_or, take}
use borrow.Author.Tests.{lt-ltb, le-ltb}
use Rattle.defs.specs.Meaning.Cell.{Cells, Run, AtMostRuns}
use Rattle.defs.specs.Computing.Cells.{Rows, in_rows, count_runs}
use Rattle.laws.proofs.Pigeonhole.{pigeonhole}
use Rattle.geom.proofs.Strip.{lt_or_le}
use Rattle.geom.proofs.Stretches.{no_rows}
use Rattle.geom.proofs.RunLists.{Apart, place, place_of, stretch_is_run, run_is_stretch}

-- the number of stretch k of column i: stretches are numbered column by column
unfoldable pub number_of : List (List Rows) → ℕ → ℕ → ℕ
number_of held i k = count_runs (take i held) + k

pub number_below : (held : List (List Rows)) (i k : ℕ) → k < length (get_or held i []) → number_of held i k < count_runs held
unfolding number_of count_runs
number_below [] i k l = absurd (omega arith)
number_below (c ∷ cs) zero k l = omega arith
number_below (c ∷ cs) (suc i) k l = omega (arith, number_below cs i k l)

number_differs : (held : List (List Rows)) (i k i' k' : ℕ) → k < length (get_or held i []) → k' < length (get_or held i' []) →
    number_of held i k ≡ number_of held i' k' → (i ≡ i') × (k ≡ k')
unfolding number_of count_runs
number_differs [] i k i' k' l l' e = absurd (omega arith)
number_differs (c ∷ cs) zero k zero k' l l' e = omega arith
number_differs (c ∷ cs) zero k (suc i') k' l l' e = absurd (omega arith)
number_differs (c ∷ cs) (suc i) k zero k' l l' e = absurd (omega arith)
number_differs (c ∷ cs) (suc i) k (suc i') k' l l' e = omega (arith, number_differs cs i k i' k' l l' (omega arith))

-- the stretch with number a: its column, and its index there
pub spot : List (List Rows) → ℕ → ℕ × ℕ
spot [] a = (0, 0)
spot (c ∷ cs) a = cond (ltb a (length c)) (0, a) (suc (spot cs (a - length c)).0, (spot cs (a - length c)).1)

pub spot_number : (held : List (List Rows)) (a : ℕ) → a < count_runs held →
    ((spot held a).1 < length (get_or held (spot held a).0 [])) × (number_of held (spot held a).0 (spot held a).1 ≡ a)
unfolding spot number_of count_runs
spot_number [] a l = absurd (omega arith)
spot_number (c ∷ cs) a l =
    ⊎_elim (λ h. rw (lt-ltb a (length c) h) (omega arith))
    (λ h. rw (le-ltb a (length c) h) (omega (arith, spot_number cs (a - length c) (omega arith)))) (lt_or_le a (length c))

some_stretch : (rs : List Rows) (j : ℕ) → in_rows rs j ≡ true → 0 < length rs
some_stretch [] j e = absurd (no_rows j e)
some_stretch (r ∷ rs) j e = omega arith

-- what `get_or` finds past the end of a list
abbrev pub none : Rows
none = record { low = 0; high = 0 }

-- C has the cells that are held.
module _
    (C : Cells)
    (held : List (List Rows))
    (apart : (i : ℕ) → Apart (get_or held i []))
    (same : (i j : ℕ) → C i j ↔ (in_rows (get_or held i []) j ≡ true)) where
  -- a run has the number of its stretch
  runs_numbered : (n : ℕ) → count_runs held ≤ n → AtMostRuns C n
  runs_numbered n h =
      record {
        number = λ i low. number_of held i (place (get_or held i []) low);
        below = λ {i} {low} {high} r. omega (arith, number_below held i (place (get_or held i []) low) (at r).0);
        differ = λ {i} {low} {high} {i'} {low'} {high'} r r' e.
            let t = number_differs held i _ i' _ (at r).0 (at r').0 e in (
              t.0,
              ap (λ (x : Rows). x.low)
                  (sym (at r).1 ∙ ap₂ (λ (i k : ℕ). get_or (get_or held i []) k none) t.0 t.1 ∙ (at r').1),
            );
      }
    where
      at : {i low high : ℕ} → Run C i low high →
          (place (get_or held i []) low < length (get_or held i [])) ×
          (get_or (get_or held i []) (place (get_or held i []) low) none ≡ record { low = low; high = high })
      at {i} r = run_is_stretch none C i (get_or held i []) (apart i) (same i) r

  -- any numbering of the runs numbers the stretches, differently, since column and lowest row say which stretch it is
  at_least_counted : (n : ℕ) → AtMostRuns C n → count_runs held ≤ n
  at_least_counted n m =
      pigeonhole (count_runs held) n (λ a. m.number (spot held a).0 (low_of a)) (λ a l. m.below (run a l))
      (λ a b l k e.
      let t = m.differ (run a l) (run b k) e in
      sym (number_is a l) ∙ ap₂ (λ (i low : ℕ). number_of held i (place (get_or held i []) low)) t.0 t.1 ∙ number_is b k)
    where
      column : ℕ → List Rows
      column a = get_or held (spot held a).0 []

      low_of : ℕ → ℕ
      low_of a = (get_or (column a) (spot held a).1 none).low

      run : (a : ℕ) → a < count_runs held → Run C (spot held a).0 (low_of a) (get_or (column a) (spot held a).1 none).high
      run a l =
          stretch_is_run none C (spot held a).0 (column a) (apart _) (same _) (spot held a).1 (spot_number held a l).0

      number_is : (a : ℕ) → a < count_runs held → number_of held (spot held a).0 (place (column a) (low_of a)) ≡ a
      number_is a l =
          ap (number_of held (spot held a).0)
          (place_of none 0 (column a) (spot held a).1 (low_of a) (apart _) (spot_number held a l).0 (omega arith) (run a l).some) ∙
          (spot_number held a l).1

  -- a stretch has a row, and a row lies in a stretch
  pub some_counted : (0 < count_runs held) ↔ ((i : ℕ) × (j : ℕ) × C i j)
  some_counted = (
    λ l.
        let r = stretch_is_run none C _ (get_or held (spot held 0).0 []) (apart _) (same _) (spot held 0).1 (spot_number held 0 l).0 in
        (_, _, r.unbroken _ (omega arith) r.some),
    λ c. omega (arith, number_below held c.0 0 (some_stretch _ c.1 ((same c.0 c.1).0 c.2))),
  )

  pub runs_counted : (n : ℕ) → (count_runs held ≤ n) ↔ AtMostRuns C n
  runs_counted n = (runs_numbered n, at_least_counted n)

pub counted : (held : List (List Rows)) → ((i : ℕ) → Apart (get_or held i [])) → (n : ℕ) →
    (count_runs held ≤ n) ↔ AtMostRuns (λ i j. in_rows (get_or held i []) j ≡ true) n
counted held apart n = runs_counted (λ i j. in_rows (get_or held i []) j ≡ true) held apart (λ i j. Iff.rfl) n
