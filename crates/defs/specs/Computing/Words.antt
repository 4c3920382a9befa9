-- A strip's words, computed: well formed, the runs of its columns, and one way to write them. Assumes nothing.
use Rattle.std.specs.Prelude.{Bool, cond, ◌&&◌, ◌||◌, List, [], ◌∷◌, ◌++◌, ℕ, zero, suc, ◌+◌, ◌*◌, ◌-◌, ◌/◌, ltb, leb, eqb, length}
use Rattle.defs.specs.Meaning.Limits.{most_width, most_resolution, most_columns, most_records, most_gap, leading_words, record_words}
use Rattle.defs.specs.Meaning.Strip.{width_of, resolution_of, columns_of, gap_of, first_of, column_of, low_of, high_of, next_of}
use Rattle.defs.specs.Computing.Test.{ask, all_to, all, list_from, chain_by, ends_by}
use Rattle.defs.specs.Computing.Cells.{Rows, count_runs}

unfoldable pub widthb : ℕ → Bool
widthb W = leb 1 W && leb W most_width

unfoldable pub resolutionb : ℕ → Bool
resolutionb R = leb 1 R && leb R most_resolution

unfoldable pub columnsb : ℕ → Bool
columnsb N = leb 1 N && leb N most_columns

unfoldable pub gapb : ℕ → Bool
gapb g = leb g most_gap

unfoldable pub limitsb : ℕ → ℕ → ℕ → Bool
limitsb W R N = widthb W && (resolutionb R && columnsb N)

-- the first of 3, 16 and 17 that gets "no", else 0
unfoldable pub limits_no : ℕ → ℕ → ℕ → ℕ
limits_no W R N =
    ask (widthb W) 3 λ _.
    ask (resolutionb R) 16 λ _.
    ask (columnsb N) 17 λ _.
    0

-- the first of 3, 16, 17 and 21
unfoldable pub figures_no : ℕ → ℕ → ℕ → ℕ → ℕ
figures_no W R N g =
    let no = limits_no W R N in
    ask (eqb no 0) no λ _.
    ask (gapb g) 21 λ _.
    0

-- Q of a strip of so many words
unfoldable pub records_of : ℕ → ℕ → ℕ
records_of N words = (words - (leading_words + N)) / record_words

unfoldable pub lengthb : ℕ → ℕ → Bool
lengthb N words =
    let Q = records_of N words in
    (leb 1 Q && leb Q most_records) && eqb words (leading_words + N + record_words * Q)

abbrev pub chain : List ℕ → ℕ → ℕ → List ℕ
chain s n r = chain_by (next_of s) n r

unfoldable pub occurrences : ℕ → List ℕ → ℕ
occurrences x [] = 0
occurrences x (r ∷ rs) = cond (eqb r x) 1 0 + occurrences x rs

unfoldable pub in_columnb : List ℕ → ℕ → ℕ → Bool
in_columnb s k r =
    (eqb (column_of s r) k && ltb (low_of s r) (high_of s r)) &&
    (leb (high_of s r) (width_of s) && (eqb (next_of s r) 0 || ltb (high_of s r) (low_of s (next_of s r))))

unfoldable pub is_freeb : List ℕ → ℕ → Bool
is_freeb s r = eqb (column_of s r) (columns_of s) && (eqb (low_of s r) 0 && eqb (high_of s r) 0)

unfoldable pub concat : List (List ℕ) → List ℕ
concat [] = []
concat (c ∷ cs) = c ++ concat cs

unfoldable pub well_formedb : List ℕ → Bool
well_formedb s =
    let N = columns_of s in
    let Q = records_of N (length s) in
    let free = chain s Q (first_of s N) in
    let every = concat (list_from (λ k. chain s Q (first_of s k)) 0 (N + 1)) in
    let ends = all_to (λ k. ends_by (next_of s) Q Q (first_of s k)) (N + 1) in
    let columns = all_to (λ k. all (in_columnb s k) (chain s Q (first_of s k))) N in
    let frees = all (is_freeb s) free in
    let once = all_to (λ r. eqb (occurrences (r + 1) every) 1) Q in
    (lengthb N (length s) && (limitsb (width_of s) (resolution_of s) N && gapb (gap_of s))) && (ends && (columns && (frees && once)))

unfoldable pub rows_of : List ℕ → List ℕ → List Rows
rows_of s [] = []
rows_of s (r ∷ rs) = record { low = low_of s r; high = high_of s r } ∷ rows_of s rs

-- the runs of column k of a strip
unfoldable pub runs_of : List ℕ → ℕ → List Rows
runs_of s k = rows_of s (chain s (records_of (columns_of s) (length s)) (first_of s k))

unfoldable pub columns_runs : List ℕ → List (List Rows)
columns_runs s = list_from (runs_of s) 0 (columns_of s)

-- One way to number the records: 1, 2, 3 by column, then low, and the free ones after them.
unfoldable pub heads : ℕ → List (List Rows) → List ℕ
heads r [] = []
heads r (c ∷ cs) = cond (eqb (length c) 0) 0 r ∷ heads (r + length c) cs

unfoldable pub column_words : ℕ → ℕ → List Rows → List ℕ
column_words k r [] = []
column_words k r (x ∷ xs) =
    k ∷ (x.low ∷ (x.high ∷ (cond (eqb (length xs) 0) 0 (r + 1) ∷ column_words k (r + 1) xs)))

unfoldable pub run_words : ℕ → ℕ → List (List Rows) → List ℕ
run_words k r [] = []
run_words k r (c ∷ cs) = column_words k r c ++ run_words (k + 1) (r + length c) cs

unfoldable pub free_words : ℕ → ℕ → ℕ → List ℕ
free_words N r zero = []
free_words N r (suc n) = N ∷ (0 ∷ (0 ∷ (cond (eqb n 0) 0 (r + 1) ∷ free_words N (r + 1) n)))

unfoldable pub written : ℕ → ℕ → ℕ → ℕ → ℕ → List (List Rows) → List ℕ
written W R N g Q cs =
    let n = count_runs cs in
    W ∷ (R ∷ (N ∷ (cond (ltb n Q) (n + 1) 0 ∷ (g ∷ (heads 1 cs ++ (run_words 0 1 cs ++ free_words N (n + 1) (Q - n)))))))
