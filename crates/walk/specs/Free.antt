-- A table laid flat, a piece's runs, and the columns and heights at which the piece is free.
-- Assumes nothing.
use Rattle.std.specs.Prelude.{List, ℕ, ◌+◌, ◌*◌, ◌≤◌, ◌<◌, length, get_or, Option, Some, None}
use Rattle.tables.specs.Flat.{Occupied, Laid}
use Rattle.tables.specs.Piece.{run_column, run_low, run_high}

-- p runs that stand by column
pub record InColumns (r : List ℕ) (p : ℕ) : Type 0 where
  pub long : 3 * p ≤ length r
  pub order : (k m : ℕ) → k < m → m < p → run_column r k ≤ run_column r m

-- a table of N columns and width W laid flat, and p runs of a piece, which is w columns wide and t rows tall; its runs may go further,
-- at most 400 rows up
pub record Frame (f l h r : List ℕ) (N W p w t : ℕ) : Type 0 where
  pub table : Laid f l h W N (get_or f N 0)
  pub columns : InColumns r p
  pub some : (k : ℕ) → k < p → run_low r k < run_high r k
  pub tall : (k : ℕ) → k < p → run_high r k ≤ t + 400

-- of p runs the first q are in columns before w, and the others are not
pub record Before (r : List ℕ) (p w q : ℕ) : Type 0 where
  pub few : q ≤ p
  pub inside : (m : ℕ) → m < q → run_column r m < w
  pub past : (m : ℕ) → q ≤ m → m < p → w ≤ run_column r m

-- the first k runs of the piece, moved to c, y, hold no occupied cell of the N columns
pub record FreeTo (f l h r : List ℕ) (N c y k : ℕ) : Type 0 where
  pub clear : (m : ℕ) → m < k → c + run_column r m < N → (j : ℕ) → run_low r m ≤ j → j < run_high r m → ¬ Occupied f l h (c + run_column r m) (y + j)

-- after a jump of run k to y the walk goes on with run m: the runs before m are of those before k, which stay free up to `stay`, and so
-- they do up to `after`
pub record GoesOn (k y stay top m after : ℕ) : Type 0 where
  pub few : m ≤ k
  pub low : y ≤ after
  pub high : after ≤ top
  pub kept : 0 < m → after ≤ stay

-- the least free height of column c
pub record Least (f l h r : List ℕ) (N W p t c y : ℕ) : Type 0 where
  pub fits : y + t ≤ W
  pub free : FreeTo f l h r N c y p
  pub least : (z : ℕ) → z < y → ¬ FreeTo f l h r N c z p

pub record NoHeight (f l h r : List ℕ) (N W p t c : ℕ) : Type 0 where
  pub none : (z : ℕ) → z + t ≤ W → ¬ FreeTo f l h r N c z p

abbrev pub Walked : (f l h r : List ℕ) (N W p t c : ℕ) → Option ℕ → Type 0
Walked f l h r N W p t c (Some y) = Least f l h r N W p t c y
Walked f l h r N W p t c None = NoHeight f l h r N W p t c

-- the least column with a free height, and the least in it
pub record FirstSpot (f l h r : List ℕ) (N W p w t c y : ℕ) : Type 0 where
  pub fits : c + w ≤ N
  pub height : Least f l h r N W p t c y
  pub least : (b : ℕ) → b < c → NoHeight f l h r N W p t b

abbrev pub Searched : (f l h r : List ℕ) (N W p w t : ℕ) → Option (ℕ × ℕ) → Type 0
Searched f l h r N W p w t (Some (c, y)) = FirstSpot f l h r N W p w t c y
Searched f l h r N W p w t None = (c : ℕ) → c + w ≤ N → NoHeight f l h r N W p t c
