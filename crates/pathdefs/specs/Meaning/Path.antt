-- "Outlines from the drawing program" (S-3): the bytes of a path, the value of a coordinate, and the outline that a path gives.
-- Assumes nothing.
use Rattle.std.specs.Prelude.{◌≡◌, cond, List, [], ◌∷◌, ℕ, ◌+◌, ◌*◌, ◌/◌, ◌%◌, ◌^◌, ◌≤◌, ◌<◌, eqb, length}
use Rattle.defs.specs.Meaning.Limits.{Between, most_coordinate}
use Rattle.defs.specs.Meaning.Outline.{sides}
use Rattle.defs.specs.Meaning.Turn.{Whole, whole, negative}

-- "IEEE 754 binary32, low byte first": the 32 bits of a coordinate as one number, from its four bytes.
abbrev pub bits_of : ℕ → ℕ → ℕ → ℕ → ℕ
bits_of a b c d = a + 256 * b + 65536 * c + 16777216 * d

-- IEEE 754 binary32: a bit of sign S, 8 bits of exponent E, 23 bits of fraction T.
abbrev pub sign_of : ℕ → ℕ
sign_of n = n / 2 ^ 31

abbrev pub exponent_of : ℕ → ℕ
exponent_of n = n / 2 ^ 23 % 2 ^ 8

abbrev pub fraction_of : ℕ → ℕ
fraction_of n = n % 2 ^ 23

-- E 255 is an infinity or a NaN, and no number. Else the number is (−1)^S × 2^(E − 127) × (1 + T / 2^23), and where E is 0
-- (−1)^S × 2^(−126) × T / 2^23. Times 2^150 it is a whole number: (−1)^S × 2^E × (2^23 + T), and (−1)^S × 2 T.
unfoldable pub magnitude : ℕ → ℕ
magnitude n = cond (eqb (exponent_of n) 0) (2 * fraction_of n) (2 ^ exponent_of n * (2 ^ 23 + fraction_of n))

abbrev pub value_of : ℕ → Whole
value_of n = cond (eqb (sign_of n) 0) (whole (magnitude n)) (negative (whole (magnitude n)))

-- "A coordinate is accepted when eight times it is a whole number from 0 to 16,000": the coordinate with these bits, and that whole number
-- k. The number that minus zero stands for is 0: "minus zero counts as 0".
pub record Accepted (n k : ℕ) : Type 0 where
  pub number : exponent_of n < 255
  pub eight_times : 8 * (value_of n).plus ≡ 8 * (value_of n).minus + k * 2 ^ 150
  pub at_most : k ≤ most_coordinate

-- "Each step is a move or a line with its two coordinates, or the close." The coordinates by their bits.
pub record Pair : Type 0 where
  pub x : ℕ
  pub y : ℕ

pub data Drawn : Type 0 where
  move line : Pair → Drawn
  close : Drawn

abbrev pub pair : ℕ → ℕ → Pair
pair x y = record { x = x; y = y }

-- "A path is a list of steps, each one byte: 1 move, 2 line, 3 close; move and line carry x and y in millimetres as IEEE 754 binary32,
-- low byte first." These bytes are these steps, one after another, and nothing else.
pub data Steps : List ℕ → List Drawn → Type 0 where
  the_end : Steps [] []
  a_move :
      {a b c d e f g h : ℕ} {bs : List ℕ} {ss : List Drawn} → Steps bs ss →
      Steps (1 ∷ a ∷ b ∷ c ∷ d ∷ e ∷ f ∷ g ∷ h ∷ bs) (move (pair (bits_of a b c d) (bits_of e f g h)) ∷ ss)
  a_line :
      {a b c d e f g h : ℕ} {bs : List ℕ} {ss : List Drawn} → Steps bs ss →
      Steps (2 ∷ a ∷ b ∷ c ∷ d ∷ e ∷ f ∷ g ∷ h ∷ bs) (line (pair (bits_of a b c d) (bits_of e f g h)) ∷ ss)
  a_close : {bs : List ℕ} {ss : List Drawn} → Steps bs ss → Steps (3 ∷ bs) (close ∷ ss)

-- "A path is one move, 2 to 63 lines, one close, and nothing after it."
abbrev pub lines_then_close : List Pair → List Drawn
lines_then_close [] = close ∷ []
lines_then_close (p ∷ ps) = line p ∷ lines_then_close ps

pub record Shape (path : List ℕ) (first : Pair) (others : List Pair) : Type 0 where
  pub lines : Between 2 (length others) 63
  pub steps : Steps path (move first ∷ lines_then_close others)

-- "19 for a path of another shape": the question to which that is "no".
pub record Question19 (path : List ℕ) : Type 0 where
  pub first : Pair
  pub others : List Pair
  pub shape : Shape path first others

-- The words x, y of the outline whose vertices have these coordinates. Each is accepted.
pub data Units : List Pair → List ℕ → Type 0 where
  no_more : Units [] []
  vertex :
      {p : Pair} {ps : List Pair} {x y : ℕ} {ws : List ℕ} → Accepted p.x x → Accepted p.y y → Units ps ws →
      Units (p ∷ ps) (x ∷ y ∷ ws)

-- A path gives an outline: the move is the first vertex.
pub record PathGives (path outline : List ℕ) : Type 0 where
  pub first : Pair
  pub others : List Pair
  pub shape : Shape path first others
  pub units : Units (first ∷ others) outline

-- "20 for a coordinate not accepted", of a path that passes 19.
pub record Question20 (path : List ℕ) : Type 0 where
  pub outline : List ℕ
  pub gives : PathGives path outline

-- "minus zero counts as 0 and is never written": no coordinate has the sign
abbrev pub Unsigned : List Pair → Type 0
Unsigned [] = Unit {0}
Unsigned (p ∷ ps) = ((sign_of p.x ≡ 0) × (sign_of p.y ≡ 0)) × Unsigned ps

-- The bytes of a move or a line, and of the path of an outline: a move or a line for each vertex, and the close.
abbrev pub step_bytes : ℕ
step_bytes = 9

abbrev pub path_size : List ℕ → ℕ
path_size o = step_bytes * sides o + 1
