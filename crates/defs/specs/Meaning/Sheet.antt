-- "Job sheet" of document 01: the sheet's bytes, its chains, cut lists, and which cut list a sheet holds. The sheet that is
-- written, each of whose bytes document 01 fixes, is in Computing.Sheets. Assumes nothing.
use Rattle.std.specs.Prelude.{◌≡◌, List, [], ◌∷◌, ◌++◌, ℕ, ◌+◌, ◌*◌, ◌/◌, ◌≤◌, ◌<◌, length, get_or, take, drop}
use Rattle.defs.specs.Meaning.Limits.{Between, least_vertices, most_vertices, most_pieces, most_bytes}
use Rattle.defs.specs.Meaning.Strip.{Limits}

-- "16-bit numbers, low byte first."
abbrev pub number_at : List ℕ → ℕ → ℕ
number_at b i = get_or b i 0 + 256 * get_or b (i + 1) 0

-- "Bytes 0 to 3: 4E 4A 01 00 hexadecimal."
abbrev pub mark : List ℕ
mark = 0x4e ∷ 0x4a ∷ 0x01 ∷ 0x00 ∷ []

-- "From byte 4: W, R, N, first piece, V, P."
abbrev pub sheet_w : List ℕ → ℕ
sheet_w b = number_at b 4

abbrev pub sheet_r : List ℕ → ℕ
sheet_r b = number_at b 6

abbrev pub sheet_n : List ℕ → ℕ
sheet_n b = number_at b 8

abbrev pub first_piece : List ℕ → ℕ
first_piece b = number_at b 10

abbrev pub sheet_v : List ℕ → ℕ
sheet_v b = number_at b 12

abbrev pub sheet_p : List ℕ → ℕ
sheet_p b = number_at b 14

-- "Then V vertex records (x, y, next), then P piece records (first vertex, mask, next), 6 bytes each, numbered from 1."
-- Number i (0, 1 or 2) of vertex record r and of piece record r: vertex record 1 begins at byte 16, and record r at
-- 16 + 6 (r − 1), which is 10 + 6 r; the piece records follow as if they were vertex records V + 1, V + 2, ..
abbrev pub vertex_number : List ℕ → ℕ → ℕ → ℕ
vertex_number b r i = number_at b (10 + 6 * r + 2 * i)

abbrev pub piece_number : List ℕ → ℕ → ℕ → ℕ
piece_number b r i = number_at b (10 + 6 * (sheet_v b + r) + 2 * i)

-- "Chains end with 0": the records of the chain that begins at r, in order; they stay in 1 to `most`.
pub data Chain (next : ℕ → ℕ) (most : ℕ) : ℕ → List ℕ → Type 0 where
  done : Chain next most 0 []
  link : {r : ℕ} {rs : List ℕ} → 0 < r → r ≤ most → Chain next most (next r) rs → Chain next most r (r ∷ rs)

-- "1. Does the sheet have 16 bytes and begin with its four bytes?"
pub record Question1 (b : List ℕ) : Type 0 where
  pub long : 16 ≤ length b
  pub begins : take 4 b ≡ mark

-- "2. Is its length 16 + 6V + 6P and at most 65,536?"
pub record Question2 (b : List ℕ) : Type 0 where
  pub fits : length b ≡ 16 + 6 * sheet_v b + 6 * sheet_p b
  pub most : length b ≤ most_bytes

-- "6. Does the piece chain stay in 1 to P and end within 200 pieces": its records
pub record PieceChain (b rs : List ℕ) : Type 0 where
  pub chain : Chain (λ r. piece_number b r 2) (sheet_p b) (first_piece b) rs
  pub most : length rs ≤ most_pieces

-- "7. Does the vertex chain stay in 1 to V and end after 3 to 64": the vertices of piece record r
pub record VertexChain (b : List ℕ) (r : ℕ) (vs : List ℕ) : Type 0 where
  pub chain : Chain (λ v. vertex_number b v 2) (sheet_v b) (piece_number b r 0) vs
  pub count : Between least_vertices (length vs) most_vertices

-- A piece of a cut list: mask and outline.
pub record Piece : Type 0 where
  pub mask : ℕ
  pub outline : List ℕ

abbrev pub vertex_words : List ℕ → List ℕ → List ℕ
vertex_words b [] = []
vertex_words b (v ∷ vs) = vertex_number b v 0 ∷ (vertex_number b v 1 ∷ vertex_words b vs)

-- The pieces of the piece records rs.
pub data Pieces (b : List ℕ) : List ℕ → List Piece → Type 0 where
  no_more : Pieces b [] []
  one_more :
      {r : ℕ} {rs vs : List ℕ} {ps : List Piece} → VertexChain b r vs → Pieces b rs ps →
      Pieces b (r ∷ rs) (record { mask = piece_number b r 1; outline = vertex_words b vs } ∷ ps)

-- "Reading walks each chain … and gives W, R, N and the cut list": a sheet that passes 1, 2, 3, 16, 17, 6
-- and 7 holds these pieces.
pub record SheetHolds (b : List ℕ) (ps : List Piece) : Type 0 where
  pub q1 : Question1 b
  pub q2 : Question2 b
  pub limits : Limits (sheet_w b) (sheet_r b) (sheet_n b)
  pub records : List ℕ
  pub q6 : PieceChain b records
  pub pieces : Pieces b records ps

-- "the cut list in words: the piece count, then per piece its vertex count, mask and x, y pairs"
abbrev pub piece_words : Piece → List ℕ
piece_words p = length p.outline / 2 ∷ (p.mask ∷ p.outline)

abbrev pub pieces_words : List Piece → List ℕ
pieces_words [] = []
pieces_words (p ∷ ps) = piece_words p ++ pieces_words ps

abbrev pub list_words : List Piece → List ℕ
list_words ps = length ps ∷ pieces_words ps

-- The piece with which some words of a list begin, by its vertex count, and the words after it.
abbrev pub list_piece : List ℕ → Piece
list_piece ws = record { mask = get_or ws 1 0; outline = take (2 * get_or ws 0 0) (drop 2 ws) }

abbrev pub after_piece : List ℕ → List ℕ
after_piece ws = drop (2 + 2 * get_or ws 0 0) ws

-- "Words after a list's last piece are not looked at."
pub record ListHolds (ws : List ℕ) (ps : List Piece) : Type 0 where
  pub rest : List ℕ
  pub words : ws ≡ list_words ps ++ rest
