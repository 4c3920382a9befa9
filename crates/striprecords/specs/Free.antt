-- A strip of a shape, and free records in order. Assumes nothing.
use Rattle.std.specs.Prelude.{◌≡◌, List, ℕ, ◌+◌, ◌≤◌, ◌<◌, length}
use Rattle.defs.specs.Meaning.Limits.{most_gap}
use Rattle.defs.specs.Meaning.Strip.{Limits, Length, width_of, resolution_of, columns_of, gap_of, next_of, IsFree}
use Rattle.striprecords.specs.declared.Shape.{Shape}

-- Length and limits are kept, and g has W, N and Q.
pub record Sized (s : List ℕ) (g : Shape) : Type 0 where
  pub width : g.width ≡ width_of s
  pub columns : g.columns ≡ columns_of s
  pub limits : Limits (width_of s) (resolution_of s) (columns_of s)
  pub gap : gap_of s ≤ most_gap
  pub long : Length (columns_of s) g.records (length s)

-- Record r is free, and its next is r + 1.
pub record LeadsOn (s : List ℕ) (r : ℕ) : Type 0 where
  pub free : IsFree s r
  pub next : next_of s r ≡ r + 1

-- Records r to e - 1, where there are any, lead on, each to one of 1 to Q.
pub record InOrder (s : List ℕ) (Q r e : ℕ) : Type 0 where
  pub from : r ≤ e
  pub first : r < e → 0 < r
  pub last : r < e → e ≤ Q
  pub each : (i : ℕ) → i < e → r ≤ i → LeadsOn s i
