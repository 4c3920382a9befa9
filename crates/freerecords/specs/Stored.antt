-- What each part of a strip is written from. Runs are counted from 0, records from 1: record i + 1 carries run i.
-- Assumes nothing.
use Rattle.std.specs.Prelude.{cond, List, [], ◌∷◌, ℕ, ◌+◌, ◌*◌, ◌-◌, ◌/◌, ◌%◌, ◌≤◌, ltb, length, get_or}
use Rattle.defs.specs.Computing.Test.{list_from}

-- the record of run i in a chain of runs that ends before run `end`; zero where the chain has no such run
abbrev pub link : ℕ → ℕ → ℕ
link i end = cond (ltb i end) (i + 1) 0

-- the first record of column k, and of each of N columns
abbrev pub first_record : List ℕ → ℕ → ℕ
first_record f k = link (get_or f k 0) (get_or f (k + 1) 0)

unfoldable pub first_records : List ℕ → ℕ → List ℕ
first_records f N = list_from (first_record f) 0 N

-- the runs `from` to end - 1 of a table, and room for their records from word `at` of a strip
pub record RunsFit (l h : List ℕ) (from end at words : ℕ) : Type 0 where
  pub order : from ≤ end
  pub lows : end ≤ length l
  pub highs : end ≤ length h
  pub room : at + 4 * (end - from) ≤ words

-- room for the free records t + 1 to Q from word `at` of a strip
pub record FreeFit (t Q at words : ℕ) : Type 0 where
  pub order : t ≤ Q
  pub few : Q ≤ 16000
  pub room : at + 4 * (Q - t) ≤ words

-- the four words that a number of 64 bits is made of, lowest first
abbrev pub parts_of : ℕ → List ℕ
parts_of v = v % 65536 ∷ v / 65536 % 65536 ∷ v / 65536 / 65536 % 65536 ∷ v / 65536 / 65536 / 65536 ∷ []
