-- The rows between entries of a slab. Assumes nothing.
use Rattle.std.specs.Prelude.{◌≡◌, true, ◌⊎◌, List, ℕ, ◌+◌, ◌*◌, ◌/◌, ◌%◌, ◌≤◌, ◌<◌, min, max, length, get_or}
use Rattle.join.specs.Runs.{Apart, Holds}
use Rattle.slabs.specs.Slab.{InSlab}
use Rattle.entries.specs.Edges.{upper}

-- row y lies between entry x and the next one, which is higher
pub record Between (h0 h1 w : List ℕ) (x y : ℕ) : Type 0 where
  pub apart : upper h0 h1 w x (x + 1) ≡ true
  pub low : min (get_or h0 x 0) (get_or h1 x 0) / get_or w x 0 ≤ y
  pub row : y < 16000
  pub high : y * get_or w (x + 1) 0 < max (get_or h0 (x + 1) 0) (get_or h1 (x + 1) 0)

-- row y lies between the two of a pair of entries, of the first m: 0 and 1, or 2 and 3, ..
pub record Paired (h0 h1 w : List ℕ) (m y : ℕ) : Type 0 where
  pub at : ℕ
  pub even : at % 2 ≡ 0
  pub below : at + 1 < m
  pub between : Between h0 h1 w at y

pub record SlabRow (v : List ℕ) (a b y : ℕ) : Type 0 where
  pub opened : InSlab v a b y
  pub row : y < 16000

-- r runs hold the rows of n runs and the rows that pass P, and no others
pub record Adds (P : ℕ → Type 0) (l h l' h' : List ℕ) (n r : ℕ) : Type 0 where
  pub runs : Apart l' h' r
  pub kept : (y : ℕ) → Holds l h n y → Holds l' h' r y
  pub added : (y : ℕ) → P y → Holds l' h' r y
  pub only : (y : ℕ) → Holds l' h' r y → Holds l h n y ⊎ P y

-- n runs, with room for one more
pub record Room (l h : List ℕ) (n : ℕ) : Type 0 where
  pub runs : Apart l h n
  pub rows : (y : ℕ) → Holds l h n y → y < 16000
  pub long : 8001 ≤ length l
  pub high_long : 8001 ≤ length h
