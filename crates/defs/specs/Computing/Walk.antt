-- The walk of S-5 ("How much looking was done"): which heights are tried in which columns, and how many they are. Assumes nothing.
use Rattle.std.specs.Prelude.{cond, List, [], ◌∷◌, ℕ, zero, suc, ◌+◌, ◌*◌, ◌-◌, leb, length, Option, Some, None}
use Rattle.defs.specs.declared.Position.{Position}
use Rattle.defs.specs.Meaning.Turn.{extent_x, extent_y}
use Rattle.defs.specs.Meaning.Placing.{columns_for}
use Rattle.defs.specs.Computing.Test.{any}
use Rattle.defs.specs.Computing.Cells.{Rows, piece_runs, count_runs, allowedb, most_runs}
use Rattle.defs.specs.Computing.Search.{meets, freeb, drop_n, position}

-- A clash: a run of the piece, and an occupied run that it meets.
pub record Clash : Type 0 where
  pub own : Rows
  pub met : Rows

-- "the lowest occupied run that it meets": of a column's runs, which rise, the first that the piece's run r meets at height y
unfoldable pub lowest_met : ℕ → Rows → List Rows → Option Rows
lowest_met y r [] = None
lowest_met y r (b ∷ bs) = let later = lowest_met y r bs in cond (meets y r b) (Some b) later

-- what a run of the piece says, or else the others
unfoldable pub clash_or : Rows → Option Rows → Option Clash → Option Clash
clash_or r None others = others
clash_or r (Some b) others = Some (record { own = r; met = b })

-- "the piece's first clashing run by column and then low": in one column, and from column to column
unfoldable pub clash_in : ℕ → List Rows → List Rows → Option Clash
clash_in y [] b = None
clash_in y (r ∷ rs) b = let others = clash_in y rs b in clash_or r (lowest_met y r b) others

unfoldable pub first_of : Option Clash → Option Clash → Option Clash
first_of None later = later
first_of (Some m) later = Some m

unfoldable pub first_clash : ℕ → List (List Rows) → List (List Rows) → Option Clash
first_clash y [] strip = None
first_clash y (c ∷ cs) [] = None
first_clash y (c ∷ cs) (b ∷ bs) = let later = first_clash y cs bs in first_of (clash_in y c b) later

-- "The next height is that occupied run's high less the piece run's low."
abbrev pub next_height : Clash → ℕ
next_height m = m.met.high - m.own.low

-- what follows after a clash, or nothing after a free position
unfoldable pub goes_on : Option Clash → (ℕ → List ℕ) → List ℕ
goes_on None from = []
goes_on (Some m) from = from (next_height m)

-- The heights tried in one column from y on, at most n of them: "A height past the top … is no try and ends its column".
-- `there` are the strip's columns from that column on, h is the piece's height.
unfoldable pub heights_from : ℕ → ℕ → List (List Rows) → List (List Rows) → ℕ → ℕ → List ℕ
heights_from W h piece there zero y = []
heights_from W h piece there (suc n) y =
    let rest = goes_on (first_clash y piece there) (heights_from W h piece there n) in
    cond (leb (y + h) W) (y ∷ rest) []

-- "in each column height 0 is tried first". Heights rise, so no more than W + 1 - h of them are tried.
unfoldable pub heights_in : ℕ → ℕ → List (List Rows) → List (List Rows) → List ℕ
heights_in W h piece there = heights_from W h piece there ((W + 1) - h) 0

-- The heights tried in column c and the columns after it, n columns at most: "The walk of a turn ends at its first free position or
-- when no column is left."
unfoldable pub columns_from : ℕ → ℕ → List (List Rows) → List (List Rows) → ℕ → ℕ → List (List ℕ)
columns_from W h piece strip c zero = []
columns_from W h piece strip c (suc n) =
    let there = drop_n c strip in
    let here = heights_in W h piece there in
    let later = columns_from W h piece strip (suc c) n in
    here ∷ cond (any (λ y. freeb y piece there) here) [] later

-- "A turn is walked column by column"; "columns off the strip are not tried".
unfoldable pub turn_walk : ℕ → ℕ → ℕ → ℕ → List (List Rows) → List ℕ → ℕ → List (List ℕ)
turn_walk W R N g strip o t =
    columns_from W (extent_y o t) (piece_runs o t R g) strip 0 ((N + 1) - columns_for (extent_x o t) R)

-- Where a walk ends: at the free position among those tried, or nowhere. The heights of column c, and those of column c and after it.
unfoldable pub free_among : ℕ → ℕ → List (List Rows) → List (List Rows) → List ℕ → Option Position → Option Position
free_among t c piece there [] later = later
free_among t c piece there (y ∷ ys) later =
    let rest = free_among t c piece there ys later in
    cond (freeb y piece there) (Some (position t c y)) rest

unfoldable pub end_from : ℕ → List (List Rows) → List (List Rows) → ℕ → List (List ℕ) → Option Position
end_from t piece strip c [] = None
end_from t piece strip c (ys ∷ cs) =
    let later = end_from t piece strip (suc c) cs in
    free_among t c piece (drop_n c strip) ys later

unfoldable pub walk_end : ℕ → ℕ → ℕ → ℕ → List (List Rows) → List ℕ → ℕ → Option Position
walk_end W R N g strip o t = end_from t (piece_runs o t R g) strip 0 (turn_walk W R N g strip o t)

-- the tries of a walk, and the columns in which a height was tried
unfoldable pub tries_in : List (List ℕ) → ℕ
tries_in [] = 0
tries_in (ys ∷ cs) = length ys + tries_in cs

unfoldable pub some_height : List ℕ → ℕ
some_height [] = 0
some_height (y ∷ ys) = 1

unfoldable pub columns_tried : List (List ℕ) → ℕ
columns_tried [] = 0
columns_tried (ys ∷ cs) = some_height ys + columns_tried cs

-- "the tries made over all allowed turns": of those below n
unfoldable pub tries_below : ℕ → ℕ → ℕ → ℕ → List (List Rows) → List ℕ → ℕ → ℕ → ℕ
tries_below W R N g strip o mask zero = 0
tries_below W R N g strip o mask (suc t) =
    let here = tries_in (turn_walk W R N g strip o t) in
    tries_below W R N g strip o mask t + cond (allowedb mask t) here 0

-- "the (turn, column) pairs in which a height was tried"
unfoldable pub pairs_below : ℕ → ℕ → ℕ → ℕ → List (List Rows) → List ℕ → ℕ → ℕ → ℕ
pairs_below W R N g strip o mask zero = 0
pairs_below W R N g strip o mask (suc t) =
    let here = columns_tried (turn_walk W R N g strip o t) in
    pairs_below W R N g strip o mask t + cond (allowedb mask t) here 0

-- "times (1 + p × q), with p the most runs of any allowed turn and q the runs on the strip before the call"
unfoldable pub tries_bound : ℕ → ℕ → ℕ → ℕ → List (List Rows) → List ℕ → ℕ → ℕ
tries_bound W R N g strip o mask = pairs_below W R N g strip o mask 4 * (1 + most_runs o mask R g 4 * count_runs strip)
