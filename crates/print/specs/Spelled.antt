-- The digits of a number, at the end of bytes.
-- Assumes nothing.
use Rattle.std.specs.Prelude.{◌≡◌, List, [], ℕ, ◌≤◌, length, drop}
use Rattle.defs.specs.Computing.Text.{digits}

-- the last k digits of n, without leading zeros, stand from place r to the end of the k bytes
pub record Spelled (k n : ℕ) (text : List ℕ) (r : ℕ) : Type 0 where
  pub within : r ≤ k
  pub long : length text ≡ k
  pub is : drop r text ≡ digits k n []
