-- The rows between the edges of a slab, joined to a column's runs.
-- Assumes nothing.
use Rattle.std.specs.Prelude.{◌≡◌, cond, ◌↔◌, List, ℕ, ◌+◌, ◌*◌, ◌-◌, ◌/◌, ◌≤◌, ◌<◌, ltb, length, get_or}
use Rattle.join.specs.Runs.{Apart, Holds}
use Rattle.defs.specs.Meaning.Outline.{sides}
use Rattle.geom.specs.Units.{InUnits}
use Rattle.entries.specs.Edges.{NextAt}
use Rattle.section.specs.Slabs.{Kept}
use Rattle.gaps.specs.Gaps.{Adds, SlabRow}

-- the buffers of a column's work: 64 entries, 8,001 runs
pub record Buffers (h0 h1 w l h : List ℕ) : Type 0 where
  pub left : length h0 ≡ 64
  pub right : length h1 ≡ 64
  pub wide : length w ≡ 64
  pub lows : 8001 ≤ length l
  pub highs : 8001 ≤ length h

-- The height at distance d on the line from height p to height q, l apart. Exact where l divides the difference of p and q.
unfoldable pub on_line : ℕ → ℕ → ℕ → ℕ → ℕ
on_line p q l d = cond (ltb p q) (p + (q - p) / l * d) (p - (p - q) / l * d)

-- the heights of m entries are in their limits
pub record Heights (h0 h1 : List ℕ) (m : ℕ) : Type 0 where
  pub left : (x : ℕ) → x < m → get_or h0 x 0 ≤ 256000000
  pub right : (x : ℕ) → x < m → get_or h1 x 0 ≤ 256000000
  pub few : m ≤ 64
  pub long0 : length h0 ≡ 64
  pub long1 : length h1 ≡ 64

-- the heights of the first m entries at distances d0 and d1 from the left end of their slab, which is l wide
pub record Parted (h0 h1 : List ℕ) (l d0 d1 : ℕ) (g0 g1 : List ℕ) (m : ℕ) : Type 0 where
  pub left : (x : ℕ) → x < m → get_or g0 x 0 ≡ on_line (get_or h0 x 0) (get_or h1 x 0) l d0
  pub right : (x : ℕ) → x < m → get_or g1 x 0 ≡ on_line (get_or h0 x 0) (get_or h1 x 0) l d1

-- if the entries are those of a neat slab from a to b, the rows of its part from x0 to x1 were added
pub record AddsPart (h0 h1 w : List ℕ) (a b m x0 x1 : ℕ) (l h l' h' : List ℕ) (n r : ℕ) : Type 0 where
  pub rows : (v : List ℕ) → Kept v a b m h0 h1 w → Adds (SlabRow v x0 x1) l h l' h' n r

-- a column's work: buffers, and the slab kept from the column before, if it is not empty, with the next vertex after it
pub record Working (v : List ℕ) (a b m c : ℕ) (h0 h1 w g0 g1 l h : List ℕ) : Type 0 where
  pub buffers : Buffers h0 h1 w l h
  pub part_left : length g0 ≡ 64
  pub part_right : length g1 ≡ 64
  pub kept : a < b → Kept v a b m h0 h1 w
  pub next : NextAt v b (sides v) c

-- r runs, apart, that hold the rows covered in the unit columns from `from` to `to`; and the slab that is kept
pub record ColumnOf (v : List ℕ) (from to : ℕ) (h0 h1 w l h : List ℕ) (r a b m c : ℕ) : Type 0 where
  pub runs : Apart l h r
  pub rows : (y : ℕ) → Holds l h r y ↔ InUnits v from to y
  pub few : r < 8001
  pub kept : a < b → Kept v a b m h0 h1 w
  pub next : NextAt v b (sides v) c
