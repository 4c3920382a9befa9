-- One column entered: the old table f, l, h laid flat, the piece's runs r, and the last column of the new table, l' and h' from a base on.
-- Assumes nothing.
use Rattle.std.specs.Prelude.{◌≡◌, List, ◌⊎◌, ℕ, ◌+◌, ◌≤◌, ◌<◌, length, get_or}
use Rattle.runs.specs.Runs.{Holds, Apart}
use Rattle.tables.specs.Flat.{Occupied, Laid}
use Rattle.tables.specs.Piece.{run_column, run_low, run_high, PieceRuns}
use Rattle.columnentry.specs.declared.Entry.{Entry}
use Rattle.columnentry.specs.declared.Built.{Built}

-- the table that the piece is entered into
pub record Old (f l h : List ℕ) (g : Entry) : Type 0 where
  pub count : ℕ
  pub laid : Laid f l h g.width g.columns count

-- The limits, and a piece whose runs all begin on the table. They may go past its top, and there may be some past its last column: what
-- is past them does not count.
pub record Fits (r : List ℕ) (g : Entry) : Type 0 where
  pub width : g.width ≤ 16000
  pub columns : g.columns ≤ 4096
  pub most : g.most ≤ 16000
  pub wide : ℕ
  pub tall : ℕ
  pub piece : PieceRuns r g.runs wide tall
  pub right : g.column ≤ g.columns
  pub height : g.height ≤ g.width
  pub rows : tall ≤ 16400
  pub feet : (m : ℕ) → m < g.runs → g.height + run_low r m < g.width

-- the words before b are kept
pub record Kept (old new : List ℕ) (b : ℕ) : Type 0 where
  pub long : length new ≡ length old
  pub before : (i : ℕ) → i < b → get_or new i 0 ≡ get_or old i 0

-- the words a to e - 1 of s stand at t; the words before t are kept
pub record Copied (s old new : List ℕ) (a e t : ℕ) : Type 0 where
  pub kept : Kept old new t
  pub moved : (i j : ℕ) → a ≤ i → i < e → j + a ≡ i + t → get_or new j 0 ≡ get_or s i 0

-- the piece's runs before run e are in columns before k, the others are not
pub record Split (r : List ℕ) (g : Entry) (k e : ℕ) : Type 0 where
  pub among : e ≤ g.runs
  pub before : (m : ℕ) → m < e → g.column + run_column r m < k
  pub others : (m : ℕ) → e ≤ m → m < g.runs → k ≤ g.column + run_column r m

-- The runs b to t - 1, in rows below 16000, and room for as many as can be in such rows.
pub record Room (l h : List ℕ) (b t : ℕ) : Type 0 where
  pub runs : Apart l h b t
  pub start : b ≤ t
  pub rows : (x : ℕ) → Holds l h b t x → x < 16000
  pub base : b ≤ 16000
  pub lows : 24001 ≤ length l
  pub highs : 24001 ≤ length h

-- row x, below W, is in one of the piece's runs a to e - 1, at height y
pub record OfRuns (r : List ℕ) (W y a e x : ℕ) : Type 0 where
  pub which : ℕ
  pub from : a ≤ which
  pub to : which < e
  pub low : y + run_low r which ≤ x
  pub high : x < y + run_high r which
  pub top : x < W

-- the runs b to u - 1 have the rows of the runs b to t - 1 and of the piece's runs a to e - 1, and no other
pub record Added (l h l' h' r : List ℕ) (b t u W y a e : ℕ) : Type 0 where
  pub room : Room l' h' b u
  pub held : (x : ℕ) → Holds l h b t x → Holds l' h' b u x
  pub added : (x : ℕ) → OfRuns r W y a e x → Holds l' h' b u x
  pub only : (x : ℕ) → Holds l' h' b u x → Holds l h b t x ⊎ OfRuns r W y a e x
  pub lows : Kept l l' b
  pub highs : Kept h h' b

-- The runs b to u - 1 are apart, and have the rows of column k and of the piece's runs in that column, and no other.
pub record ColumnIs (f l h r l' h' : List ℕ) (g : Entry) (k b u : ℕ) : Type 0 where
  pub a : ℕ
  pub e : ℕ
  pub from : Split r g k a
  pub to : Split r g (k + 1) e
  pub runs : Apart l' h' b u
  pub held : (x : ℕ) → Occupied f l h k x → Holds l' h' b u x
  pub added : (x : ℕ) → OfRuns r g.width g.height a e x → Holds l' h' b u x
  pub only : (x : ℕ) → Holds l' h' b u x → Occupied f l h k x ⊎ OfRuns r g.width g.height a e x

-- column k comes next: the new table has b.runs runs, and the piece's runs before b.used are entered
pub record Next (f l h r : List ℕ) (g : Entry) (k : ℕ) (b : Built) : Type 0 where
  pub old : Old f l h g
  pub fits : Fits r g
  pub here : k < g.columns
  pub base : b.runs ≤ 16000
  pub split : Split r g k b.used

-- column k is entered: d.runs and d.used are the figures after it
pub record EntersColumn (f l h r l₁ h₁ l' h' : List ℕ) (g : Entry) (k : ℕ) (b d : Built) : Type 0 where
  pub room : Room l' h' b.runs d.runs
  pub column : ColumnIs f l h r l' h' g k b.runs d.runs
  pub split : Split r g (k + 1) d.used
  pub lows : Kept l₁ l' b.runs
  pub highs : Kept h₁ h' b.runs
