-- One run that rises until it is free, and the way round the piece's runs.
-- Assumes nothing.
use Rattle.std.specs.Prelude.{◌≡◌, List, ℕ, ◌+◌, ◌≤◌, ◌<◌, Result, Ok, Err}
use Rattle.tries.specs.Tries.{ClearTo, Lands}
use Rattle.walk.specs.declared.sought.Search.{Search}
use Rattle.walk.specs.Free.{Least, NoHeight}

-- a jump of the rows lo to hi - 1 of column c goes over the height u
pub record Skipped (f l h : List ℕ) (c lo hi u : ℕ) : Type 0 where
  pub start : ℕ
  pub end : ℕ
  pub jump : Lands f l h c lo hi start end
  pub low : start ≤ u
  pub high : u < end

-- z is the least height from y on at which the rows lo to hi - 1 are free
pub record Settled (f l h : List ℕ) (c lo hi y z : ℕ) : Type 0 where
  pub up : y ≤ z
  pub free : ClearTo f l h c lo hi z z z
  pub skipped : (u : ℕ) → y ≤ u → u < z → Skipped f l h c lo hi u

-- run m of p comes after run k, going round
pub record NextRun (k p m : ℕ) : Type 0 where
  pub next : k + 1 < p → m ≡ k + 1
  pub again : k + 1 ≡ p → m ≡ 0

-- n runs are left after one of `left` that went from y to z: if it rose, all of the p runs but that one
pub record RunsLeft (y z p left n : ℕ) : Type 0 where
  pub rose : y < z → n + 1 ≡ p
  pub stayed : z ≤ y → n + 1 ≡ left

-- no height is free, and run k found none
pub record Stopped (f l h r : List ℕ) (N W p t c k : ℕ) : Type 0 where
  pub none : NoHeight f l h r N W p t c
  pub among : k < p

abbrev pub Rounded : (f l h r : List ℕ) (N W p t c : ℕ) → Result ℕ ℕ → Type 0
Rounded f l h r N W p t c (Ok y) = Least f l h r N W p t c y
Rounded f l h r N W p t c (Err k) = Stopped f l h r N W p t c k

abbrev pub RoundedIn : Search → ℕ → Result ℕ ℕ → Type 0
RoundedIn s c a = Rounded s.first.now s.lows.now s.highs.now s.runs.now s.columns s.width s.count s.tall c a
