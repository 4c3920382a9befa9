-- Covered cells and runs, computed. Assumes nothing.
use Rattle.std.specs.Prelude.{Bool, cond, not, ◌&&◌, ◌||◌, List, [], ◌∷◌, ℕ, zero, suc, ◌+◌, ◌*◌, ◌-◌, ◌/◌, ◌%◌, ◌^◌, min, max, ltb, leb, eqb, length}
use Rattle.defs.specs.Meaning.Outline.{sides, Edge, edge_at, spans, width, height, count_to, change_order}
use Rattle.defs.specs.Meaning.Turn.{turned, extent_x, extent_y}
use Rattle.defs.specs.Meaning.Placing.{columns_for}
use Rattle.defs.specs.Computing.Test.{any_to, all_to, any, list_from}

-- f is higher than e in the middle of unit column k
unfoldable pub higher : ℕ → Edge → Edge → Bool
higher k e f =
    ltb ((height e k 1 + height e (k + 1) 1) * width f) ((height f k 1 + height f (k + 1) 1) * width e)

-- how many edges that span the column are not higher than edge i
unfoldable pub not_higher : List ℕ → ℕ → ℕ → ℕ
not_higher v k i = count_to (λ m. spans (edge_at v m) k && not (higher k (edge_at v i) (edge_at v m))) (sides v)

-- edge i reaches below the top of row j, and each edge higher than it reaches above the row's foot
unfoldable pub reaches : ℕ → ℕ → Edge → Bool
reaches k j e = ltb (min (height e k 1) (height e (k + 1) 1)) ((j + 1) * width e)

unfoldable pub rises : ℕ → ℕ → Edge → Bool
rises k j g = ltb (j * width g) (max (height g k 1) (height g (k + 1) 1))

unfoldable pub open_above : List ℕ → ℕ → ℕ → ℕ → Bool
open_above v k j i =
    all_to (λ m. not (spans (edge_at v m) k && higher k (edge_at v i) (edge_at v m)) || rises k j (edge_at v m)) (sides v)

-- Between edge i and the next one above it, row j of unit column k holds points inside.
unfoldable pub opens : List ℕ → ℕ → ℕ → ℕ → Bool
opens v k j i =
    spans (edge_at v i) k && (eqb (not_higher v k i % 2) 1 && (reaches k j (edge_at v i) && open_above v k j i))

-- Row j of one of the n unit columns from a on holds a point inside of the outline v, if no two edges of v change order.
unfoldable pub unitsb : List ℕ → ℕ → ℕ → ℕ → Bool
unitsb v a n j = any_to (λ k. any_to (opens v (a + k) j) (sides v)) n

-- row j, or one of the g rows below it, passes the test
unfoldable pub raisedb : ℕ → (ℕ → Bool) → ℕ → Bool
raisedb g f j = any_to (λ b. leb b j && f (j - b)) (g + 1)

-- Cell (i, j) at resolution R with gap g: a unit cell that holds a point inside lies in its columns or at most g to their left, and in
-- its row or at most g below it.
unfoldable pub coveredb : List ℕ → ℕ → ℕ → ℕ → ℕ → Bool
coveredb v R g i j = raisedb g (unitsb v (i * R - g) ((i + 1) * R - (i * R - g))) j

unfoldable pub keeps_orderb : List ℕ → ℕ → Bool
keeps_orderb v w =
    all_to (λ k. all_to (λ i. all_to (λ j. not (change_order k (edge_at v i) (edge_at v j))) (sides v)) (sides v)) w

-- Rows low to high - 1 of a column.
pub record Rows : Type 0 where
  pub low : ℕ
  pub high : ℕ

unfoldable pub join_row : ℕ → List Rows → List Rows
join_row n [] = record { low = n; high = n + 1 } ∷ []
join_row n (r ∷ rs) =
    cond (eqb r.low (n + 1)) (record { low = n; high = r.high } ∷ rs) (record { low = n; high = n + 1 } ∷ (r ∷ rs))

-- The largest unbroken stretches of rows below n that pass the test, before those that are given.
unfoldable pub stretches : (ℕ → Bool) → ℕ → List Rows → List Rows
stretches f zero rs = rs
stretches f (suc n) rs = stretches f n (cond (f n) (join_row n rs) rs)

unfoldable pub in_rows : List Rows → ℕ → Bool
in_rows rs j = any (λ (r : Rows). leb r.low j && ltb j r.high) rs

-- The runs of an outline in turn t with gap g, column by column.
unfoldable pub piece_runs : List ℕ → ℕ → ℕ → ℕ → List (List Rows)
piece_runs o t R g =
    let v = turned o t in
    list_from (λ i. stretches (coveredb v R g i) (extent_y o t + g) []) 0 (columns_for (extent_x o t + g) R)

unfoldable pub count_runs : List (List Rows) → ℕ
count_runs [] = 0
count_runs (c ∷ cs) = length c + count_runs cs

unfoldable pub allowedb : ℕ → ℕ → Bool
allowedb mask t = eqb ((mask / 2 ^ t) % 2) 1

unfoldable pub ordersb : List ℕ → ℕ → Bool
ordersb o mask = all_to (λ t. not (allowedb mask t) || keeps_orderb (turned o t) (extent_x o t)) 4

-- the most runs of an allowed turn below n
unfoldable pub most_runs : List ℕ → ℕ → ℕ → ℕ → ℕ → ℕ
most_runs o mask R g zero = 0
most_runs o mask R g (suc t) =
    let here = count_runs (piece_runs o t R g) in
    max (most_runs o mask R g t) (cond (allowedb mask t) here 0)
