-- "The questions" of document 01, each as a statement. 1 and 2 of a sheet stand in Sheet, with the chains that its 6 and 7 ask for.
-- Assumes nothing.
use Rattle.std.specs.Prelude.{◌≡◌, ◌⊎◌, List, ℕ, ◌+◌, ◌*◌, ◌/◌, ◌%◌, ◌≤◌, ◌<◌, length, get_or}
use Rattle.defs.specs.declared.Position.{Position}
use Rattle.defs.specs.Meaning.Limits.{Between, least_vertices, most_vertices, most_coordinate, most_turn, most_mask, most_width, most_resolution, most_columns, most_gap, most_pieces, most_bytes}
use Rattle.defs.specs.Meaning.Outline.{KeepsOrder}
use Rattle.defs.specs.Meaning.Turn.{turned, Allows}
use Rattle.defs.specs.Meaning.Cell.{Covered, Cells, AtMostRuns}
use Rattle.defs.specs.Meaning.Strip.{Length, WellFormed}
use Rattle.defs.specs.Meaning.Placing.{OnStrip, Free, Fits, cells_in, cells_at}
use Rattle.defs.specs.Meaning.Sheet.{PieceChain, VertexChain}

-- "write 3, 6 to 11, then 2 (size)": the size of what is to be written
abbrev pub Question2Size : ℕ → Type 0
Question2Size size = size ≤ most_bytes

-- "3. Are W, R, N (those given) in their limits?" Changed by S-1: "Number 3 now means the width only. Cover asks only about the
-- resolution. New numbers: 16 when the resolution is outside its limits, then 17 when the column count is, both directly after 3
-- wherever 3 is asked."
abbrev pub Question3 : ℕ → Type 0
Question3 W = Between 1 W most_width

abbrev pub Question16 : ℕ → Type 0
Question16 R = Between 1 R most_resolution

abbrev pub Question17 : ℕ → Type 0
Question17 N = Between 1 N most_columns

-- S-4: "New numbers: 21 when g is over 400, directly after 16 and 17."
abbrev pub Question21 : ℕ → Type 0
Question21 g = g ≤ most_gap

-- "4. At opening: is the strip's length right for N and some Q?"
unfoldable pub Question4 : ℕ → ℕ → Type 0
Question4 N words = (Q : ℕ) × Length N Q words

-- "5. Is the strip well formed?"
unfoldable pub Question5 : List ℕ → Type 0
Question5 s = (Q : ℕ) × WellFormed s Q

-- "6. Does the piece chain stay in 1 to P and end within 200 pieces; has the list a count word of at most 200?"
unfoldable pub Question6 : List ℕ → Type 0
Question6 b = (rs : List ℕ) × PieceChain b rs

pub record Question6List (ws : List ℕ) : Type 0 where
  pub count_word : 1 ≤ length ws
  pub most : get_or ws 0 0 ≤ most_pieces

-- "7. Does the vertex chain stay in 1 to V and end after 3 to 64; is the list's vertex count 3 to 64 and the piece's words
-- complete; has a lent outline an even length of 6 to 128 words?" Of piece record r; of a list's words from a piece on; of a
-- lent outline.
unfoldable pub Question7Sheet : List ℕ → ℕ → Type 0
Question7Sheet b r = (vs : List ℕ) × VertexChain b r vs

pub record Question7List (ws : List ℕ) : Type 0 where
  pub count : Between least_vertices (get_or ws 0 0) most_vertices
  pub complete : 2 + 2 * get_or ws 0 0 ≤ length ws

pub record Question7 (o : List ℕ) : Type 0 where
  pub even : length o % 2 ≡ 0
  pub words : Between 6 (length o) 128

-- "8. Is each coordinate at most 16,000?"
unfoldable pub Question8 : List ℕ → Type 0
Question8 o = (i : ℕ) → i < length o → get_or o i 0 ≤ most_coordinate

-- "9. Is the mask 1 to 15, or the turn 0 to 3?"
abbrev pub Question9 : ℕ → Type 0
Question9 mask = Between 1 mask most_mask

abbrev pub Question9Turn : ℕ → Type 0
Question9Turn t = t ≤ most_turn

-- "10. In every allowed turn, do no two edges change order?"
unfoldable pub Question10 : List ℕ → ℕ → Type 0
Question10 o mask = (t : ℕ) → Allows mask t → KeepsOrder (turned o t)

-- "11. Is a cell covered?" With a gap one is exactly when one is without.
pub record Question11 (o : List ℕ) (mask R : ℕ) : Type 0 where
  pub turn : ℕ
  pub column : ℕ
  pub row : ℕ
  pub allowed : Allows mask turn
  pub covered : Covered (turned o turn) R column row

-- "12. Has the buffer (cover's output, else the work buffer) three words for each run of the allowed turn that has most runs?"
-- These are the runs that cover gives: none is left out past a strip's top or end.
unfoldable pub Question12 : List ℕ → ℕ → ℕ → ℕ → ℕ → Type 0
Question12 o mask R g words = (t : ℕ) → Allows mask t → AtMostRuns (cells_in R g o t) (words / 3)

-- "13. Is there a free position?"
unfoldable pub Question13 : ℕ → ℕ → ℕ → ℕ → Cells → List ℕ → ℕ → Type 0
Question13 W R N g Occupied o mask = (p : Position) × Fits W R N g Occupied o mask p

-- S-2: "18 when a commit's position is off the strip or not free, asked instead of 13"
pub record Question18 (W R N g : ℕ) (Occupied : Cells) (o : List ℕ) (p : Position) : Type 0 where
  pub on_strip : OnStrip W R N o p
  pub free : Free Occupied W R N g o p

-- "14. Are the strip's runs after placing at most Q?"
unfoldable pub Question14 : ℕ → ℕ → ℕ → ℕ → ℕ → Cells → List ℕ → Position → Type 0
Question14 W R N g Q Occupied o p = AtMostRuns (λ i j. Occupied i j ⊎ cells_at W R N g o p i j) Q

-- "15. Does the output buffer hold the output?" Both in words, or both in bytes.
abbrev pub Question15 : ℕ → ℕ → Type 0
Question15 output room = output ≤ room

-- "cover 3, 7 to 12; place 5, 7 to 14", cover's 3 being 16 by S-1: 7 to 12 of one lent outline; where a turn is given, its mask is
-- 2 ^ t.
pub record Asked7to12 (o : List ℕ) (mask R g words : ℕ) : Type 0 where
  pub q7 : Question7 o
  pub q8 : Question8 o
  pub q9 : Question9 mask
  pub q10 : Question10 o mask
  pub q11 : Question11 o mask R
  pub q12 : Question12 o mask R g words

-- what place and ask ask before 13, and, with its turn alone allowed, a commit before 18
pub record AskedBefore13 (s o : List ℕ) (mask R g words : ℕ) : Type 0 where
  pub q5 : Question5 s
  pub q7to12 : Asked7to12 o mask R g words
