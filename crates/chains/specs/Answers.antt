-- What each function of the crate answers, case by case. Assumes nothing.
use Rattle.std.specs.Prelude.{◌≡◌, List, ℕ, ◌≤◌, ◌<◌, Option, Some, None}
use Rattle.defs.specs.Meaning.Strip.{width_of, column_of, low_of, high_of}
use Rattle.chains.specs.Form.{ChainOf}

-- r is a record, and a run of column c that begins at row m or later.
pub record RunFrom (s : List ℕ) (Q c m r : ℕ) : Type 0 where
  pub is_one : r ≤ Q
  pub column : column_of s r ≡ c
  pub from : m ≤ low_of s r
  pub some : low_of s r < high_of s r
  pub fits : high_of s r ≤ width_of s

pub record RunTo (s : List ℕ) (Q c m r h : ℕ) : Type 0 where
  pub run : RunFrom s Q c m r
  pub high : high_of s r ≡ h

pub record NoRun (s : List ℕ) (Q c m r : ℕ) : Type 0 where
  pub none : RunFrom s Q c m r → ⊥

abbrev pub Marks : List ℕ → ℕ → ℕ → ℕ → ℕ → Option ℕ → Type 0
Marks s Q c m r (Some h) = RunTo s Q c m r h
Marks s Q c m r None = NoRun s Q c m r

pub record NoChain (s : List ℕ) (Q c : ℕ) : Type 0 where
  pub none : (k : ℕ) → ChainOf s Q c k → ⊥

abbrev pub Chains : List ℕ → ℕ → ℕ → Option ℕ → Type 0
Chains s Q c (Some k) = ChainOf s Q c k
Chains s Q c None = NoChain s Q c
