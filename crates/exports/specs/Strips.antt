-- A strip looked at and written anew, as tests and benchmarks call it.
-- Assumes nothing.
use Rattle.std.specs.Prelude.{List, ℕ, length}
use Rattle.defs.specs.Meaning.Strip.{width_of, resolution_of, columns_of, gap_of}
use Rattle.defs.specs.Computing.Test.{ask}
use Rattle.defs.specs.Computing.Cells.{count_runs}
use Rattle.defs.specs.Computing.Words.{well_formedb, records_of, columns_runs, written}

-- 5, or 0
unfoldable pub rewrite_answer : List ℕ → ℕ
rewrite_answer s = ask (well_formedb s) 5 λ _. 0

unfoldable pub rewritten : List ℕ → List ℕ
rewritten s =
    ask (well_formedb s) s λ _.
    written (width_of s) (resolution_of s) (columns_of s) (gap_of s) (records_of (columns_of s) (length s)) (columns_runs s)

-- the number of runs, or the greatest number of 32 bits
unfoldable pub decoded_answer : List ℕ → ℕ
decoded_answer s = ask (well_formedb s) 4294967295 λ _. count_runs (columns_runs s)
