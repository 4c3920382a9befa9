-- "Strip" of document 01: the form of a strip's words, well formed, and the cells that a strip holds. Assumes nothing.
use Rattle.std.specs.Prelude.{◌≡◌, cond, List, ℕ, ◌+◌, ◌*◌, ◌-◌, ◌≤◌, ◌<◌, ltb, length, get_or}
use Rattle.defs.specs.Meaning.Limits.{Between, most_width, most_resolution, most_columns, most_records, most_gap, leading_words, record_words}

-- "Width W is 1 to 16,000 units, columns N 1 to 4,096" … "Resolution R is 1 to 400 units."
pub record Limits (W R N : ℕ) : Type 0 where
  pub width : Between 1 W most_width
  pub resolution : Between 1 R most_resolution
  pub columns : Between 1 N most_columns

-- "records Q 1 to 16,000. The strip is 4 + N + 4Q lent 16-bit words"
pub record Length (N Q words : ℕ) : Type 0 where
  pub records : Between 1 Q most_records
  pub words_are : words ≡ leading_words + N + record_words * Q

-- "W, R, N, first free record;", by S-4 the gap, "then each column's first record; then records 1 to Q of four words: column, low, high,
-- next."
abbrev pub width_of : List ℕ → ℕ
width_of s = get_or s 0 0

abbrev pub resolution_of : List ℕ → ℕ
resolution_of s = get_or s 1 0

abbrev pub columns_of : List ℕ → ℕ
columns_of s = get_or s 2 0

-- S-4: "A strip is opened with a gap g of 0 to 400 units, kept in a fifth leading word"
abbrev pub gap_of : List ℕ → ℕ
gap_of s = get_or s 4 0

-- The first record of column k's chain. The free records' chain goes by k = N.
abbrev pub first_of : List ℕ → ℕ → ℕ
first_of s k = cond (ltb k (columns_of s)) (get_or s (leading_words + k) 0) (get_or s 3 0)

-- Word i of record r: record 1 begins after the leading words and N heads, and record r at 5 + N + 4 (r − 1), which is 4 r + N + (5 − 4).
abbrev pub word_of : List ℕ → ℕ → ℕ → ℕ
word_of s r i = get_or s (record_words * r + columns_of s + (leading_words - record_words) + i) 0

abbrev pub column_of : List ℕ → ℕ → ℕ
column_of s r = word_of s r 0

abbrev pub low_of : List ℕ → ℕ → ℕ
low_of s r = word_of s r 1

abbrev pub high_of : List ℕ → ℕ → ℕ
high_of s r = word_of s r 2

abbrev pub next_of : List ℕ → ℕ → ℕ
next_of s r = word_of s r 3

-- "Records are chained by next; zero ends a chain." The chain that begins at record r holds record x.
pub data Chained (s : List ℕ) (x : ℕ) : ℕ → Type 0 where
  here : 0 < x → Chained s x x
  further : {r : ℕ} → 0 < r → Chained s x (next_of s r) → Chained s x r

-- "every chain ends in zero": the chain that begins at record r does, and stays in records 1 to Q.
pub data Ends (s : List ℕ) (Q : ℕ) : ℕ → Type 0 where
  zero_ends : Ends s Q 0
  goes_on : {r : ℕ} → 0 < r → r ≤ Q → Ends s Q (next_of s r) → Ends s Q r

-- "each column's chain holds records of that column, low < high ≤ W, each low greater than the high before it"
pub record InColumn (s : List ℕ) (k r : ℕ) : Type 0 where
  pub column : column_of s r ≡ k
  pub some : low_of s r < high_of s r
  pub fits : high_of s r ≤ width_of s
  pub apart : 0 < next_of s r → high_of s r < low_of s (next_of s r)

-- "A free record has column N, low and high 0."
pub record IsFree (s : List ℕ) (r : ℕ) : Type 0 where
  pub column : column_of s r ≡ columns_of s
  pub low : low_of s r ≡ 0
  pub high : high_of s r ≡ 0

-- "each record is in one chain"
pub record InOneChain (s : List ℕ) (r : ℕ) : Type 0 where
  pub chain : ℕ
  pub is_one : chain ≤ columns_of s
  pub holds : Chained s r (first_of s chain)
  pub no_other : (k : ℕ) → k ≤ columns_of s → Chained s r (first_of s k) → k ≡ chain

-- "Well formed means: length and limits kept; free records as just said; each column's chain holds …; every chain ends in
-- zero; each record is in one chain."
pub record WellFormed (s : List ℕ) (Q : ℕ) : Type 0 where
  pub long : Length (columns_of s) Q (length s)
  pub limits : Limits (width_of s) (resolution_of s) (columns_of s)
  pub gap : gap_of s ≤ most_gap
  pub free : (r : ℕ) → Chained s r (first_of s (columns_of s)) → IsFree s r
  pub columns : (k r : ℕ) → k < columns_of s → Chained s r (first_of s k) → InColumn s k r
  pub ends : (k : ℕ) → k ≤ columns_of s → Ends s Q (first_of s k)
  pub one_chain : (r : ℕ) → 1 ≤ r → r ≤ Q → InOneChain s r

-- "a cell is occupied if a run of the lent strip holds it": cell (i, j) lies in a record of column i's chain.
pub record Holds (s : List ℕ) (i j : ℕ) : Type 0 where
  pub record_number_lem : ℕ
  pub is_column : i < columns_of s
  pub chained : Chained s record_number_lem (first_of s i)
  pub from : low_of s record_number_lem ≤ j
  pub to : j < high_of s record_number_lem
