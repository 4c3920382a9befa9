-- "Outline and inside" of document 01: vertices, edges, unit columns, points, what is inside, edges that change order.
-- An outline is the list of its words x, y, x, y. Assumes nothing.
use Rattle.std.specs.Prelude.{◌≡◌, Bool, true, false, cond, ◌&&◌, ◌||◌, List, ℕ, zero, suc, ◌+◌, ◌*◌, ◌-◌, ◌/◌, ◌%◌, ◌≤◌, ◌<◌, ltb, leb, eqb, length, get_or}

-- "An outline is lent as 16-bit words x, y, x, y and so on." Vertex i is (vx o i, vy o i).
abbrev pub vx : List ℕ → ℕ → ℕ
vx o i = get_or o (2 * i) 0

abbrev pub vy : List ℕ → ℕ → ℕ
vy o i = get_or o (2 * i + 1) 0

-- the number of vertices, which is also that of edges
abbrev pub sides : List ℕ → ℕ
sides o = length o / 2

-- "closed from last to first": the vertex after i of n
abbrev pub after : ℕ → ℕ → ℕ
after n i = cond (eqb (i + 1) n) 0 (i + 1)

-- An edge by its left end and its right end. A vertical edge has both at one x.
pub record Edge : Type 0 where
  pub xl : ℕ
  pub yl : ℕ
  pub xr : ℕ
  pub yr : ℕ

abbrev pub edge_between : ℕ → ℕ → ℕ → ℕ → Edge
edge_between x y x' y' =
    cond (leb x x') (record { xl = x; yl = y; xr = x'; yr = y' }) (record { xl = x'; yl = y'; xr = x; yr = y })

-- Edge i goes from vertex i to the next one.
unfoldable pub edge_at : List ℕ → ℕ → Edge
edge_at o i = edge_between (vx o i) (vy o i) (vx o (after (sides o) i)) (vy o (after (sides o) i))

-- "Unit column k is the open span between x = k and x = k+1. An edge spans it if its ends lie at x ≤ k and x ≥ k+1;
-- vertical edges span none."
abbrev pub spans : Edge → ℕ → Bool
spans e k = leb e.xl k && ltb k e.xr

abbrev pub width : Edge → ℕ
width e = e.xr - e.xl

-- "A point is three whole numbers p, q and d, d at least 1, standing for x = p/d and y = q/d; points and heights of edges are
-- compared by products of whole numbers." The height of an edge at x = p/d, times d and times its width: the mean of its ends'
-- heights, each weighted by the distance to the other end. Neither difference is cut at 0 where the edge reaches over p/d.
unfoldable pub height : Edge → ℕ → ℕ → ℕ
height e p d = e.yl * (e.xr * d - p) + e.yr * (p - e.xl * d)

-- "edges spanning its unit column pass strictly below it": the unit column of x = p/d is p/d rounded down.
unfoldable pub passes_below : ℕ → ℕ → ℕ → Edge → Bool
passes_below p q d e = spans e (p / d) && ltb (height e p d) (q * width e)

unfoldable pub passes_through : ℕ → ℕ → ℕ → Edge → Bool
passes_through p q d e = spans e (p / d) && eqb (height e p d) (q * width e)

-- how many of 0 .. n - 1 pass a test
abbrev pub one : Bool → ℕ
one true = 1
one false = 0

unfoldable pub count_to : (ℕ → Bool) → ℕ → ℕ
count_to f zero = 0
count_to f (suc n) = count_to f n + one (f n)

unfoldable pub count_below : List ℕ → ℕ → ℕ → ℕ → ℕ → ℕ
count_below o p q d n = count_to (λ i. passes_below p q d (edge_at o i)) n

-- "A point with x not whole is inside when an odd number of the edges spanning its unit column pass strictly below it
-- and none passes through it." A point with x whole is not inside.
pub record Inside (o : List ℕ) (p q d : ℕ) : Type 0 where
  pub point : 1 ≤ d
  pub between : 0 < p % d
  pub odd : count_below o p q d (sides o) % 2 ≡ 1
  pub clear : (i : ℕ) → i < sides o → passes_through p q d (edge_at o i) ≡ false

-- edge e is strictly lower than edge f at x = k
abbrev pub lower : Edge → Edge → ℕ → Bool
lower e f k = ltb (height e k 1 * width f) (height f k 1 * width e)

-- "Two edges change order in a column they both span if one is strictly lower at k and strictly higher at k+1."
unfoldable pub change_order : ℕ → Edge → Edge → Bool
change_order k e f =
    (spans e k && spans f k) && ((lower e f k && lower f e (k + 1)) || (lower f e k && lower e f (k + 1)))

unfoldable pub Ordered : List ℕ → ℕ → Type 0
Ordered o k = (i j : ℕ) → i < sides o → j < sides o → change_order k (edge_at o i) (edge_at o j) ≡ false

-- No two edges change order.
unfoldable pub KeepsOrder : List ℕ → Type 0
KeepsOrder o = (k : ℕ) → Ordered o k
