-- The working form of a strip: its chains record by record, as the program walks them. proofs/Meaning has that it is question 5.
-- Assumes nothing.
use Rattle.std.specs.Prelude.{◌≡◌, List, ℕ, zero, suc, ◌≤◌, ◌<◌, length}
use Rattle.defs.specs.Meaning.Limits.{most_gap}
use Rattle.defs.specs.Meaning.Strip.{Limits, Length, width_of, resolution_of, columns_of, first_of, next_of, InColumn, IsFree, gap_of}

-- Record i of chain c: of column c's chain, or, for c = N, of the free records'.
unfoldable pub rec_at : List ℕ → ℕ → ℕ → ℕ
rec_at s c zero = first_of s c
rec_at s c (suc i) = next_of s (rec_at s c i)

-- The first k records of chain c are of 1 to Q.
pub record Within (s : List ℕ) (Q c k : ℕ) : Type 0 where
  pub first : (i : ℕ) → i < k → 0 < rec_at s c i
  pub last : (i : ℕ) → i < k → rec_at s c i ≤ Q

-- Chain c has k records, and each is a run of its column, or free.
pub record ChainOf (s : List ℕ) (Q c k : ℕ) : Type 0 where
  pub is_one : c ≤ columns_of s
  pub ends : rec_at s c k ≡ 0
  pub within : Within s Q c k
  pub column : (i : ℕ) → i < k → c < columns_of s → InColumn s c (rec_at s c i)
  pub free : (i : ℕ) → i < k → c ≡ columns_of s → IsFree s (rec_at s c i)

pub record Counted (s : List ℕ) (Q c : ℕ) : Type 0 where
  pub count : ℕ
  pub chain : ChainOf s Q c count

-- where record r stands
pub record Place (s : List ℕ) (Q r : ℕ) : Type 0 where
  pub chain : ℕ
  pub counted : Counted s Q chain
  pub step : ℕ
  pub within : step < counted.count
  pub is : rec_at s chain step ≡ r

pub record Formed (s : List ℕ) : Type 0 where
  pub Q : ℕ
  pub limits : Limits (width_of s) (resolution_of s) (columns_of s)
  pub gap : gap_of s ≤ most_gap
  pub long : Length (columns_of s) Q (length s)
  pub chains : (c : ℕ) → c ≤ columns_of s → Counted s Q c
  pub each : (r : ℕ) → 1 ≤ r → r ≤ Q → Place s Q r
