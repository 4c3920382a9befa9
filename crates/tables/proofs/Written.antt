-- The strip that `written` gives is well formed, with the figures and the runs of the table, where this can be written.
-- Assumes nothing.
use mathlib.Core.Path.{◌≡◌, refl}
use mathlib.Core.Bool.{true}
use mathlib.Core.List.{List, [], ◌∷◌, ◌++◌}
use Prim.Native.Nat.{ℕ, ◌+◌, ◌*◌, ◌-◌, ◌≤◌, ◌<◌}
use native.Mathlib.Omega.{arith}
use native.Mathlib.Nat.{zero-add}
use lib.ListN.{length, get_or, replicate, length-append, length-replicate, get_or-append}
use lib.Seq.{get_or_at}
use Rattle.defs.specs.Meaning.Limits.{Between, most_records, leading_words, record_words, most_gap}
use Rattle.defs.specs.Meaning.Strip.{Limits, Length, width_of, resolution_of, columns_of, gap_of}
use Rattle.defs.specs.Computing.Test.{list_from}
use Rattle.defs.specs.Computing.Cells.{Rows, in_rows, count_runs}
use Rattle.defs.specs.Computing.Words.{occurrences, concat, well_formedb, written}
use Rattle.defs.specs.Computing.Calls.{Left}
use Rattle.geom.proofs.RunLists.{Apart}
use Rattle.geom.proofs.Counting.{none}
use Rattle.laws.proofs.Questions.{records_are}
use Rattle.laws.proofs.Formed.{records_in, list_of, lists_decide}
use Rattle.tables.proofs.Ranges.{once_in_range}
use Rattle.tables.proofs.Laid.{LaidFrom, with_free, ColumnLaid, column_laid, column_ends, runs_laid, all_laid}
use Rattle.tables.proofs.LaidFormed.{column_formed, free_formed}
use Rattle.tables.proofs.WrittenWords.{length_written, written_laid}

-- runs of a table that can be written: rising, apart, with rows below W
pub record Writable (W N Q : ℕ) (held : List (List Rows)) : Type 0 where
  pub long : length held ≡ N
  pub apart : (k : ℕ) → k < N → Apart (get_or held k [])
  pub below : (k j : ℕ) → k < N → in_rows (get_or held k []) j ≡ true → j < W
  pub fits : count_runs held ≤ Q

count_append : (cs : List (List Rows)) (c : List Rows) → count_runs (cs ++ (c ∷ [])) ≡ count_runs cs + length c
unfolding count_runs
count_append [] c = omega arith
count_append (b ∷ cs) c = omega (arith, count_append cs c)

-- A strip whose records are those of the table, column by column, and after them the free ones.
module _
    (s : List ℕ)
    (held : List (List Rows))
    (table : Writable (width_of s) (columns_of s) (records_in s) held)
    (laid : LaidFrom s 0 1 (with_free held (records_in s - count_runs held))) where
  -- how many records are free, and all columns with them
  abbrev free : ℕ
  free = records_in s - count_runs held

  abbrev every : List (List Rows)
  every = with_free held free

  columns_in_all : length every ≡ columns_of s + 1
  columns_in_all = omega (arith, length-append held (replicate free none ∷ []), table.long)

  records_in_all : count_runs every ≡ records_in s
  records_in_all = omega (arith, count_append held (replicate free none), length-replicate free none, table.fits)

  -- each chain, a column's and that of the free records
  each_at : (k : ℕ) → k < columns_of s + 1 → ColumnLaid s k (get_or every k [])
  each_at k h =
      rw (zero-add k) at
      (column_laid s 0 1 every (omega arith) (omega (arith, records_in_all)) laid k (omega (arith, columns_in_all)))

  held_at : (k : ℕ) → k < columns_of s → ColumnLaid s k (get_or held k [])
  held_at k h =
      rw (get_or-append held (replicate free none ∷ []) [] k (omega (arith, table.long))) at (each_at k (omega arith))

  free_at : ColumnLaid s (columns_of s) (replicate free none)
  free_at =
      rw (get_or_at held (replicate free none) [] [] (columns_of s) table.long) at (each_at (columns_of s) (omega arith))

  each_once : (r : ℕ) → r < records_in s → occurrences (r + 1) (concat (list_from (list_of s) 0 (columns_of s + 1))) ≡ 1
  each_once r h =
      rw (← columns_in_all, all_laid s 0 1 every (omega arith) (omega (arith, records_in_all)) laid)
      (once_in_range (r + 1) 1 (count_runs every) (omega arith) (omega (arith, records_in_all)))

  laid_formed : Length (columns_of s) (records_in s) (length s) → Limits (width_of s) (resolution_of s) (columns_of s) →
      gap_of s ≤ most_gap → well_formedb s ≡ true
  laid_formed long limits gap =
      (lists_decide s).1
      (record {
        long = long;
        limits = limits;
        gap = gap;
        ends = λ k h. column_ends s (each_at k h);
        columns = λ k h. column_formed s (held_at k h) (table.apart k h) (λ j. table.below k j h);
        frees = free_formed s free free_at;
        once = each_once;
      })

pub written_left : (W R N g Q : ℕ) (held : List (List Rows)) → Limits W R N → g ≤ most_gap → Between 1 Q most_records → Writable W N Q held →
    Left W R N g (leading_words + N + record_words * Q) (λ k. get_or held k []) (written W R N g Q held)
unfolding written
written_left W R N g Q held limits gap records table =
    let s = written W R N g Q held in
    let words : length s ≡ leading_words + N + record_words * Q = length_written W R N g Q held table.long table.fits in
    let long : Length N Q (length s) = record { records = records; words_are = words } in
    let e : records_in s ≡ Q = records_are N Q (length s) long in
    let table' : Writable W N (records_in s) held = rw e table in
    let laid = written_laid W R N g Q held table.long in
    record {
      well_formed = laid_formed s held table' (rw e laid) (rw e long) limits gap;
      long = words;
      width = refl;
      resolution = refl;
      columns = refl;
      gap = refl;
      holds = λ k h. runs_laid s (held_at s held table' (rw e laid) k h);
    }
