-- A search of a range of columns, after columns that are known to be full.
-- Assumes nothing.
use mathlib.Core.List.{List}
use Prim.Native.Nat.{ℕ, ◌+◌, ◌≤◌, ◌<◌}
use native.Mathlib.Omega.{arith}
use borrow.Author.Count.{below_more}
use Rattle.walk.specs.Free.{NoHeight}

-- no column from `from` on and before c has a free height
pub record FullTo (f l h r : List ℕ) (N W p t from c : ℕ) : Type 0 where
  pub start : from ≤ c
  pub none : (b : ℕ) → b < c → from ≤ b → NoHeight f l h r N W p t b

pub full_none : (f l h r : List ℕ) (N W p t from : ℕ) → FullTo f l h r N W p t from from
full_none f l h r N W p t from = record { start = omega arith; none = λ b a e. absurd (omega arith) }

pub full_more : {f l h r : List ℕ} {N W p t from c : ℕ} → FullTo f l h r N W p t from c → NoHeight f l h r N W p t c →
    FullTo f l h r N W p t from (c + 1)
full_more a b = record { start = omega (arith, a.start); none = below_more _ _ a.none (λ e. b) }
