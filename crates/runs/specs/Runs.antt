-- Runs of rows, kept as lows and highs, from a base on: the words before it are of other columns. What joining one more run makes of
-- them, and what the search and the moving of words for it do.
-- Assumes nothing.
use Rattle.std.specs.Prelude.{◌≡◌, List, ◌⊎◌, ℕ, ◌+◌, ◌≤◌, ◌<◌, length, get_or}

-- row y is in one of the runs b to n - 1
pub record Holds (l h : List ℕ) (b n y : ℕ) : Type 0 where
  pub which : ℕ
  pub from : b ≤ which
  pub among : which < n
  pub low : get_or l which 0 ≤ y
  pub high : y < get_or h which 0

-- the runs b to n - 1 have rows, rise, and do not touch
pub record Apart (l h : List ℕ) (b n : ℕ) : Type 0 where
  pub full : (i : ℕ) → b ≤ i → i < n → get_or l i 0 < get_or h i 0
  pub apart : (i j : ℕ) → b ≤ i → i < j → j < n → get_or h i 0 < get_or l j 0

-- the runs b to m - 1 hold the rows of the runs b to n - 1 and the rows lo to hi - 1, and no other; the words before b are kept
pub record Joined (l h l' h' : List ℕ) (b n m lo hi : ℕ) : Type 0 where
  pub runs : Apart l' h' b m
  pub most : m ≤ n + 1
  pub some : b < m
  pub kept : (y : ℕ) → Holds l h b n y → Holds l' h' b m y
  pub added : (y : ℕ) → lo ≤ y → y < hi → Holds l' h' b m y
  pub only : (y : ℕ) → Holds l' h' b m y → Holds l h b n y ⊎ ((lo ≤ y) × (y < hi))
  pub lows_before : (k : ℕ) → k < b → get_or l' k 0 ≡ get_or l k 0
  pub highs_before : (k : ℕ) → k < b → get_or h' k 0 ≡ get_or h k 0

-- word k + 1 is the old word k, for k from a to n - 1; the words before a are kept
pub record Up (old new : List ℕ) (a n : ℕ) : Type 0 where
  pub long : length new ≡ length old
  pub before : (k : ℕ) → k < a → get_or new k 0 ≡ get_or old k 0
  pub moved : (k : ℕ) → a ≤ k → k < n → get_or new (k + 1) 0 ≡ get_or old k 0

-- the words b to n - 1 stand at a; the words before a are kept
pub record Down (old new : List ℕ) (a b n : ℕ) : Type 0 where
  pub long : length new ≡ length old
  pub before : (k : ℕ) → k < a → get_or new k 0 ≡ get_or old k 0
  pub moved : (j k : ℕ) → b ≤ j → j < n → k + b ≡ j + a → get_or new k 0 ≡ get_or old j 0

-- the first of the words from a to n - 1 that is at least v, or n
pub record Reaches (s : List ℕ) (a n v r : ℕ) : Type 0 where
  pub from : a ≤ r
  pub most : r ≤ n
  pub below : (k : ℕ) → k < r → a ≤ k → get_or s k 0 < v
  pub found : r < n → v ≤ get_or s r 0

-- the first of the words from a to n - 1 that is above v, or n
pub record Passes (s : List ℕ) (a n v r : ℕ) : Type 0 where
  pub from : a ≤ r
  pub most : r ≤ n
  pub within : (k : ℕ) → k < r → a ≤ k → get_or s k 0 ≤ v
  pub found : r < n → v < get_or s r 0
