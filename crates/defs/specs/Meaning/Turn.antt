-- "Turns" of document 01. A whole number of either sign is written as a difference of two naturals. Assumes nothing.
use Rattle.std.specs.Prelude.{◌≡◌, cond, List, [], ◌∷◌, ℕ, zero, suc, ◌+◌, ◌-◌, ◌/◌, ◌%◌, ◌^◌, ◌≤◌, max, leb}
use Rattle.defs.specs.Meaning.Limits.{most_turn}
use Rattle.defs.specs.Meaning.Outline.{vx, vy, sides}

-- The whole number plus − minus.
pub record Whole : Type 0 where
  pub plus : ℕ
  pub minus : ℕ

abbrev pub whole : ℕ → Whole
whole n = record { plus = n; minus = 0 }

abbrev pub negative : Whole → Whole
negative a = record { plus = a.minus; minus = a.plus }

-- The lesser of two.
abbrev pub lesser : Whole → Whole → Whole
lesser a b = cond (leb (a.plus + b.minus) (b.plus + a.minus)) a b

-- How far b lies above a, where a is at most b.
abbrev pub above : Whole → Whole → ℕ
above a b = (b.plus + a.minus) - (b.minus + a.plus)

-- A vertex on its way, with coordinates of either sign.
pub record Spot : Type 0 where
  pub x : Whole
  pub y : Whole

-- "Turn t (0 to 3) sends (x, y) t times to (−y, x)"
abbrev pub quarter : Spot → Spot
quarter v = record { x = negative v.y; y = v.x }

unfoldable pub quarters : ℕ → Spot → Spot
quarters zero v = v
quarters (suc t) v = quarter (quarters t v)

-- vertex i of an outline, sent t times
unfoldable pub sent : List ℕ → ℕ → ℕ → Spot
sent o t i = quarters t (record { x = whole (vx o i); y = whole (vy o i) })

-- the least of f 0 .. f n
unfoldable pub least : (ℕ → Whole) → ℕ → Whole
least f zero = f zero
least f (suc n) = lesser (least f n) (f (suc n))

-- The outline with n vertices (f i, g i), from vertex k on.
unfoldable pub outline_from : (ℕ → ℕ) → (ℕ → ℕ) → ℕ → ℕ → List ℕ
outline_from f g k zero = []
outline_from f g k (suc n) = f k ∷ (g k ∷ outline_from f g (suc k) n)

-- "then shifts so that least x and least y are 0. … Turn 0 is shifted too."
unfoldable pub turned : List ℕ → ℕ → List ℕ
turned o t =
    let left = least (λ i. (sent o t i).x) (sides o - 1) in
    let foot = least (λ i. (sent o t i).y) (sides o - 1) in
    outline_from (λ i. above left (sent o t i).x) (λ i. above foot (sent o t i).y) 0 (sides o)

-- the greatest of f 0 .. f (n - 1)
unfoldable pub greatest : (ℕ → ℕ) → ℕ → ℕ
greatest f zero = 0
greatest f (suc n) = max (greatest f n) (f n)

-- "Its extent w, h is then the greatest x and y."
unfoldable pub extent_x : List ℕ → ℕ → ℕ
extent_x o t = greatest (vx (turned o t)) (sides o)

unfoldable pub extent_y : List ℕ → ℕ → ℕ
extent_y o t = greatest (vy (turned o t)) (sides o)

-- "The turn mask is 1 to 15; bit t allows turn t."
pub record Allows (mask t : ℕ) : Type 0 where
  pub turn : t ≤ most_turn
  pub bit : (mask / 2 ^ t) % 2 ≡ 1
