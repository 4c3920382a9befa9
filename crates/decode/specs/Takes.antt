-- The runs of one chain, taken into the table.
-- Assumes nothing.
use Rattle.std.specs.Prelude.{◌≡◌, List, ℕ, ◌+◌, ◌≤◌, ◌<◌, length, Option, Some, None}
use Rattle.defs.specs.Meaning.Strip.{low_of, high_of}
use Rattle.defs.specs.Computing.Cells.{Rows}
use Rattle.tables.specs.Flat.{row_at}
use Rattle.chains.specs.Form.{rec_at, ChainOf}
use Rattle.chains.specs.Answers.{NoChain}

-- the rows of record r
abbrev pub run_at : List ℕ → ℕ → Rows
run_at s r = record { low = low_of s r; high = high_of s r }

-- there is room for chain c after t records
pub record Room (s : List ℕ) (Q c t : ℕ) : Type 0 where
  pub fits : (k : ℕ) → ChainOf s Q c k → t + k ≤ Q

-- The first k runs of chain c stand from t on, and the runs before t are kept.
pub record Copied (s l₀ h₀ l h : List ℕ) (c t k : ℕ) : Type 0 where
  pub lows : length l ≡ length l₀
  pub highs : length h ≡ length h₀
  pub before : (x : ℕ) → x < t → row_at l h x ≡ row_at l₀ h₀ x
  pub here : (i : ℕ) → i < k → row_at l h (t + i) ≡ run_at s (rec_at s c i)

pub record Taken (s l₀ h₀ l h : List ℕ) (Q c t k : ℕ) : Type 0 where
  pub chain : ChainOf s Q c k
  pub copied : Copied s l₀ h₀ l h c t k

abbrev pub Takes : (s l₀ h₀ l h : List ℕ) (Q c t : ℕ) → Option ℕ → Type 0
Takes s l₀ h₀ l h Q c t (Some k) = Taken s l₀ h₀ l h Q c t k
Takes s l₀ h₀ l h Q c t None = NoChain s Q c
