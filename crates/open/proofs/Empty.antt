-- The empty table: laid flat it is zeros, and the strip that it is written as is one that open may leave.
-- Assumes nothing.
use mathlib.Core.Path.{◌≡◌, refl, sym, ap, ap₂, ◌∙◌}
use mathlib.Core.Bool.{true}
use mathlib.Core.List.{List, [], ◌∷◌}
use Prim.Native.Nat.{ℕ, zero, suc, ◌+◌, ◌<◌}
use native.Mathlib.Omega.{arith}
use lib.ListN.{get_or, replicate, length-replicate}
use Rattle.defs.specs.Computing.Test.{list_from}
use Rattle.defs.specs.Computing.Words.{figures_no, lengthb, records_of, written}
use Rattle.defs.specs.Computing.Calls.{Left, opened_strip}
use Rattle.laws.proofs.Questions.{figures_none, length_decides}
use Rattle.tables.specs.Flat.{rows_from, rows_in, table_of, Flat}
use Rattle.tables.proofs.Written.{written_left}
use Rattle.tables.proofs.Empty.{column_none, empty_writable}
use Rattle.encode.specs.Room.{Room}

-- past the end of the list too
pub zeros : (m k : ℕ) → ◌≡◌ {A = ℕ} (get_or (replicate m 0) k 0) 0
zeros zero k = refl
zeros (suc m) zero = refl
zeros (suc m) (suc k) = zeros m k

pub zeros_flat : (m N : ℕ) (l h : List ℕ) → N < m → Flat (replicate m 0) l h N 0
zeros_flat m N l h b =
    record {
      firsts = omega (arith, length-replicate {A = ℕ} m 0);
      lows = omega arith;
      highs = omega arith;
      start = zeros m 0;
      rise = λ k s. omega (arith, zeros m k);
      last = zeros m N;
    }

empty_column : (m : ℕ) (l h : List ℕ) (k : ℕ) → rows_in (replicate m 0) l h k ≡ []
unfolding rows_from list_from
empty_column m l h k = rw (zeros m k, zeros m (k + 1))

empty_columns : {A : Type 0} (f : ℕ → List A) (k n : ℕ) → ((i : ℕ) → f i ≡ []) → list_from f k n ≡ replicate n []
unfolding list_from
empty_columns f k zero e = refl
empty_columns f k (suc n) e = ap₂ ◌∷◌ (e k) (empty_columns f (suc k) n e)

pub empty_table : (m : ℕ) (l h : List ℕ) (N : ℕ) → table_of (replicate m 0) l h N ≡ replicate N []
unfolding table_of
empty_table m l h N = empty_columns (rows_in (replicate m 0) l h) 0 N (empty_column m l h)

pub opened_is : (m : ℕ) (l h : List ℕ) (W R N g words : ℕ) →
    written W R N g (records_of N words) (table_of (replicate m 0) l h N) ≡ opened_strip W R N g words
unfolding opened_strip
opened_is m l h W R N g words = ap (written W R N g (records_of N words)) (empty_table m l h N)

-- what questions 3, 16, 17, 21 and 4 give
pub room_of : (W R N g words : ℕ) → figures_no W R N g ≡ 0 → lengthb N words ≡ true → Room N 0 words
room_of W R N g words figures four =
    record { columns = ((figures_none W R N g).0 figures).0.columns.at_most; long = four; fits = omega arith }

pub opened_left : (W R N g words : ℕ) → figures_no W R N g ≡ 0 → lengthb N words ≡ true →
    Left W R N g words (λ k. []) (opened_strip W R N g words)
unfolding opened_strip
opened_left W R N g words figures four =
    let long = (length_decides N words).0 four in
    let Q = records_of N words in
    let fits = (figures_none W R N g).0 figures in
    let left = written_left W R N g Q (replicate N []) fits.0 fits.1 long.records (empty_writable W N Q) in
    record {
      well_formed = left.well_formed;
      long = left.long ∙ sym long.words_are;
      width = left.width;
      resolution = left.resolution;
      columns = left.columns;
      gap = left.gap;
      holds = λ k b. left.holds k b ∙ column_none N k b;
    }
