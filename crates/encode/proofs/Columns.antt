-- The records of all columns, stored column by column.
-- Assumes nothing.
use mathlib.Core.Path.{◌≡◌}
use mathlib.Core.List.{List}
use Prim.Native.Nat.{ℕ, ◌+◌, ◌-◌, ◌*◌, ◌≤◌, ◌<◌}
use native.Mathlib.Omega.{arith}
use lib.ListN.{length, get_or}
use lib.Seq.{sets}
use Rattle.defs.specs.Meaning.Limits.{leading_words, record_words}
use Rattle.defs.specs.Computing.Test.{list_from}
use Rattle.defs.specs.Computing.Words.{column_words, run_words}
use Rattle.tables.specs.Flat.{rows_in, table_of, Flat}
use Rattle.freerecords.specs.Stored.{RunsFit}
use Rattle.words.proofs.Storing.{Storing, storing_start, storing_as, storing_many, storing_end}
use Rattle.freerecords.proofs.Words.{column_words_lem, runs_start, runs_next, runs_end}
use Rattle.tables.proofs.Flats.{firsts_most}

-- the columns before column k are done
abbrev pub Recording : (f l h : List ℕ) (N : ℕ) (s₀ s : List ℕ) (k : ℕ) → Type 0
Recording f l h N s₀ s k =
    Storing s₀ (leading_words + N) (run_words 0 1 (table_of f l h N)) s (leading_words + N + record_words * get_or f k 0)
    (run_words k (get_or f k 0 + 1) (list_from (rows_in f l h) k (N - k)))

module _ {f l h : List ℕ} {N t : ℕ} (flat : Flat f l h N t) where
  pub recording_start : (s : List ℕ) → Recording f l h N s s 0
  recording_start s =
      let e : leading_words + N + record_words * get_or f 0 0 ≡ leading_words + N = omega (arith, flat.start) in
      rw e (storing_as (runs_start flat) (storing_start s (leading_words + N) (run_words 0 1 (table_of f l h N))))

  pub recording_fits : {s₀ s : List ℕ} (k : ℕ) → k < N → leading_words + N + record_words * t ≤ length s₀ → Recording f l h N s₀ s k →
      RunsFit l h (get_or f k 0) (get_or f (k + 1) 0) (leading_words + N + record_words * get_or f k 0) (length s)
  recording_fits k b r w =
      let most = firsts_most flat (k + 1) (omega arith) in
      record {
        order = flat.rise k b;
        lows = omega (arith, flat.lows);
        highs = omega (arith, flat.highs);
        room = omega (arith, flat.rise k b, w.long);
      }

  pub recording_next : {s₀ s s' : List ℕ} (k : ℕ) → k < N → Recording f l h N s₀ s k →
      s' ≡ sets s (leading_words + N + record_words * get_or f k 0) (column_words k (get_or f k 0 + 1) (rows_in f l h k)) → Recording f l h N s₀ s' (k + 1)
  recording_next k b w e =
      storing_many (column_words k (get_or f k 0 + 1) (rows_in f l h k)) e (omega (arith, column_words_lem flat k b))
      (storing_as (runs_next flat k b) w)

  pub recording_end : {s₀ s : List ℕ} (k : ℕ) → N ≤ k → Recording f l h N s₀ s k →
      s ≡ sets s₀ (leading_words + N) (run_words 0 1 (table_of f l h N))
  recording_end k b w = storing_end (runs_end flat k (get_or f k 0 + 1) b) w
