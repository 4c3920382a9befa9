-- What one try of a run says. Assumes nothing.
use Rattle.std.specs.Prelude.{◌≡◌, List, ℕ, ◌+◌, ◌≤◌, ◌<◌, length, get_or}
use Rattle.runs.specs.Runs.{Apart}
use Rattle.tables.specs.Flat.{Occupied}
use Rattle.tries.specs.declared.Tried.{Tried}
use Rattle.tries.specs.declared.Tried.TheVariants.{Clear, Jump}

-- column c is in the arrays, and its runs are apart
pub record Column (f l h : List ℕ) (c : ℕ) : Type 0 where
  pub here : c + 1 < length f
  pub order : get_or f c 0 ≤ get_or f (c + 1) 0
  pub lows : get_or f (c + 1) 0 ≤ length l
  pub highs : get_or f (c + 1) 0 ≤ length h
  pub runs : Apart l h (get_or f c 0) (get_or f (c + 1) 0)

-- run i of column c is the lowest that meets the rows lo to hi - 1
pub record Lowest (f l h : List ℕ) (c lo hi i : ℕ) : Type 0 where
  pub from : get_or f c 0 ≤ i
  pub to : i < get_or f (c + 1) 0
  pub over : lo < get_or h i 0
  pub under : get_or l i 0 < hi
  pub below : (m : ℕ) → m < i → get_or f c 0 ≤ m → get_or h m 0 ≤ lo

-- the rows lo to hi - 1, moved to any height from y to z, hold no occupied cell of column c; z is at most `most`
pub record ClearTo (f l h : List ℕ) (c lo hi y most z : ℕ) : Type 0 where
  pub low : y ≤ z
  pub high : z ≤ most
  pub clear : (u : ℕ) → y ≤ u → u ≤ z → (x : ℕ) → u + lo ≤ x → x < u + hi → ¬ Occupied f l h c x

-- moved to y they meet an occupied run, and moved to z they lie right on the lowest that they meet
pub record Lands (f l h : List ℕ) (c lo hi y z : ℕ) : Type 0 where
  pub which : ℕ
  pub lowest : Lowest f l h c (y + lo) (y + hi) which
  pub on : z + lo ≡ get_or h which 0

abbrev pub Tries : (f l h : List ℕ) (c lo hi y most : ℕ) → Tried → Type 0
Tries f l h c lo hi y most (Clear z) = ClearTo f l h c lo hi y most z
Tries f l h c lo hi y most (Jump z) = Lands f l h c lo hi y z
