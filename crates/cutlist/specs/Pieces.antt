-- Words put into an output, and what must hold of a sheet and the output before.
-- Assumes nothing.
use Rattle.std.specs.Prelude.{◌≡◌, true, List, [], ◌∷◌, ℕ, ◌+◌, ◌*◌, ◌≤◌, length}
use Rattle.defs.specs.Meaning.Limits.{most_vertices, most_pieces}
use Rattle.defs.specs.Meaning.Sheet.{sheet_v, sheet_p, piece_number, vertex_number, piece_words, pieces_words}
use Rattle.defs.specs.Computing.Test.{ends_by}
use Rattle.defs.specs.Computing.Sheets.{q6b, piece_of, piece_records, sheet_pieces}

-- piece record `at` is in the sheet
pub record PieceAt (b : List ℕ) (v at : ℕ) : Type 0 where
  pub vertices : v ≡ sheet_v b
  pub in_sheet : 16 + 6 * (v + at) ≤ length b

-- its vertex chain ends
pub record VertexEnds (b : List ℕ) (at : ℕ) : Type 0 where
  pub ends : ends_by (λ v. vertex_number b v 2) (sheet_v b) most_vertices (piece_number b at 0) ≡ true

-- the vertex chain of each piece record ends
pub data AllEnd (b : List ℕ) : List ℕ → Type 0 where
  end_none : AllEnd b []
  end_more : {r : ℕ} {rs : List ℕ} → VertexEnds b r → AllEnd b rs → AllEnd b (r ∷ rs)

-- the number of a piece's words: a count, a mask and at most 64 vertices
pub record PieceCounted (b : List ℕ) (at n : ℕ) : Type 0 where
  pub count : n ≡ length (piece_words (piece_of b at))
  pub few : n ≤ 130

-- piece record `at` has words, and they have room from place `to`
pub record PieceFits (b : List ℕ) (v at : ℕ) (out : List ℕ) (to : ℕ) : Type 0 where
  pub here : PieceAt b v at
  pub whole : VertexEnds b at
  pub room : to + length (piece_words (piece_of b at)) ≤ length out

-- the sheet passes 6
pub record ChainEnds (b : List ℕ) (v : ℕ) : Type 0 where
  pub vertices : v ≡ sheet_v b
  pub in_sheet : 16 + 6 * (sheet_v b + sheet_p b) ≤ length b
  pub passes : q6b b ≡ true

-- each piece has words, and they have room from place 1
pub record PiecesRoom (b : List ℕ) (v : ℕ) (out : List ℕ) : Type 0 where
  pub chain : ChainEnds b v
  pub all_end : AllEnd b (piece_records b)
  pub room : 1 + length (pieces_words (sheet_pieces b)) ≤ length out

-- the next of a piece record
abbrev pub next_piece : List ℕ → ℕ → ℕ
next_piece b r = piece_number b r 2

-- the chain from piece record `at` on ends within 200
pub record ChainFrom (b : List ℕ) (v at : ℕ) : Type 0 where
  pub vertices : v ≡ sheet_v b
  pub in_sheet : 16 + 6 * (sheet_v b + sheet_p b) ≤ length b
  pub ends : ends_by (next_piece b) (sheet_p b) most_pieces at ≡ true
