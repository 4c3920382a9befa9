-- What a walk along a chain of the records of a sheet answers.
-- Assumes nothing.
use Rattle.std.specs.Prelude.{◌≡◌, true, false, List, ℕ, ◌≤◌, length, Option, Some, None}
use Rattle.std.proofs.lemmas.List.Edits.{sets}
use Rattle.defs.specs.Meaning.Limits.{most_vertices}
use Rattle.defs.specs.Meaning.Sheet.{vertex_number, vertex_words}
use Rattle.defs.specs.Computing.Test.{chain_by}
use Rattle.defs.specs.Computing.Sheets.{q6b, piece_records}
use Rattle.sheets.proofs.Chains.{Ends, Ill}

abbrev pub Chains : (next : ℕ → ℕ) (most n r : ℕ) → Option ℕ → Type 0
Chains next most n r (Some k) = Ends next most n r k
Chains next most n r None = Ill next most n r

-- question 6, with the number of pieces
pub record PiecesEnd (b : List ℕ) (k : ℕ) : Type 0 where
  pub passes : q6b b ≡ true
  pub long : length (piece_records b) ≡ k

pub record PiecesIll (b : List ℕ) : Type 0 where
  pub fails : q6b b ≡ false

abbrev pub PieceChains : List ℕ → Option ℕ → Type 0
PieceChains b (Some k) = PiecesEnd b k
PieceChains b None = PiecesIll b

-- the next of a vertex record
abbrev pub next_vertex : List ℕ → ℕ → ℕ
next_vertex b v = vertex_number b v 2

-- the vertex chain from r ends after k, and its x, y pairs stand at the start of the words
pub record Gathered (b : List ℕ) (most r : ℕ) (w w' : List ℕ) (k : ℕ) : Type 0 where
  pub ends : Ends (next_vertex b) most most_vertices r k
  pub few : k ≤ most_vertices
  pub words : w' ≡ sets w 0 (vertex_words b (chain_by (next_vertex b) most_vertices r))

abbrev pub Gathers : (b : List ℕ) (most r : ℕ) (w w' : List ℕ) → Option ℕ → Type 0
Gathers b most r w w' (Some k) = Gathered b most r w w' k
Gathers b most r w w' None = Ill (next_vertex b) most most_vertices r
