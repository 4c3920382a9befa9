-- A sheet that holds pieces that pass is one that gets no "no", and is read as these pieces; and the other way round.
-- Assumes nothing.
use mathlib.Core.Path.{◌≡◌, refl}
use mathlib.Core.Bool.{true}
use mathlib.Core.List.{List, [], ◌∷◌, map}
use Prim.Native.Nat.{ℕ, ◌+◌, ◌≤◌}
use native.Mathlib.Omega.{arith}
use lib.Dec.{eqb}
use borrow.Author.Tests.{eqb-true}
use lib.ListN.{length, length-map}
use Rattle.std.specs.Prelude.{None}
use Rattle.defs.specs.Meaning.Limits.{most_vertices, most_pieces}
use Rattle.defs.specs.Meaning.Sheet.{vertex_number, piece_number, sheet_w, sheet_r, sheet_n, sheet_v, sheet_p, first_piece, vertex_words, Piece, VertexChain, Pieces, no_more, one_more, SheetHolds}
use Rattle.defs.specs.Meaning.Question.{Question7Sheet}
use Rattle.defs.specs.Computing.Test.{ends_by}
use Rattle.defs.specs.Computing.Words.{limits_no}
use Rattle.defs.specs.Computing.Sheets.{q1b, q2b, q6b, piece_records, vertices_of, piece_of, sheet_piece_no, first_no, sheet_no, sheet_pieces}
use Rattle.laws.proofs.Tests.{and_both, asked}
use Rattle.laws.proofs.Questions.{question_1, question_2, limits_none}
use Rattle.laws.proofs.Walks.{chain_few}
use Rattle.laws.proofs.SheetChains.{chain_of_lem, chain_ends, chain_is, question_7_sheet}
use Rattle.sheets.proofs.PiecesBack.{Each, nothing_left, and_more}
use Rattle.sheets.proofs.Asking.{some_none, not_zero, first_none, PiecePasses, passes_7}

-- a piece record with vertex chain vs, as it is read
module _ {b : List ℕ} {r : ℕ} {vs : List ℕ} (c : VertexChain b r vs) where
  pub piece_is : piece_of b r ≡ record { mask = piece_number b r 1; outline = vertex_words b vs }
  unfolding piece_of vertices_of
  piece_is = rw (chain_is (most_vertices + 1) c.chain (omega (arith, c.count.at_most)))

  pub piece_none : PiecePasses (sheet_r b) (record { mask = piece_number b r 1; outline = vertex_words b vs }) → sheet_piece_no b r ≡ 0
  unfolding sheet_piece_no
  piece_none s = rw (chain_ends most_vertices c.chain c.count.at_most, piece_is) s.no

pub pieces_are : {b rs : List ℕ} {ps : List Piece} → Pieces b rs ps → map (piece_of b) rs ≡ ps
pieces_are no_more = refl
pieces_are (one_more c q) = rw (piece_is c, pieces_are q)

pub none_refused : {b rs : List ℕ} {ps : List Piece} (k : ℕ) → Pieces b rs ps → Each (PiecePasses (sheet_r b)) ps →
    first_no (sheet_piece_no b) k rs ≡ None
unfolding first_no
none_refused k no_more s = refl
none_refused {b} k (one_more {r} {rs} c q) (and_more s ss) =
    (first_none (sheet_piece_no b) k r rs).1 (piece_none c s, none_refused (k + 1) q ss)

module _ {b : List ℕ} {ps : List Piece} (h : SheetHolds b ps) where
  records_are : piece_records b ≡ h.records
  unfolding piece_records
  records_are = chain_is most_pieces h.q6.chain h.q6.most

  pub holds_pieces : sheet_pieces b ≡ ps
  unfolding sheet_pieces
  holds_pieces = rw records_are (pieces_are h.pieces)

  holds_6 : q6b b ≡ true
  unfolding q6b
  holds_6 = chain_ends most_pieces h.q6.chain h.q6.most

  pub holds_none : Each (PiecePasses (sheet_r b)) ps → sheet_no b true true ≡ None
  unfolding sheet_no
  holds_none s =
      rw (
        (question_1 b).1 h.q1,
        (question_2 b).1 h.q2,
        (limits_none (sheet_w b) (sheet_r b) (sheet_n b)).1 h.limits,
        holds_6,
        records_are,
      ) (none_refused 1 h.pieces s)

-- The other way round: where nothing gets "no", the sheet holds what is read, and that passes.

record ReadPiece (b : List ℕ) (r : ℕ) : Type 0 where
  vertices : List ℕ
  chain : VertexChain b r vertices
  passes : PiecePasses (sheet_r b) (piece_of b r)

piece_held : (b : List ℕ) (r : ℕ) → sheet_piece_no b r ≡ 0 → ReadPiece b r
unfolding sheet_piece_no Question7Sheet
piece_held b r e =
    let h = asked (ends_by (λ v. vertex_number b v 2) (sheet_v b) most_vertices (piece_number b r 0)) _ e not_zero in
    let s : PiecePasses (sheet_r b) (piece_of b r) = record { no = h.1 } in
    let q = (question_7_sheet b r).0 (and_both h.0 (passes_7 (piece_of b r) s)) in
    record { vertices = q.0; chain = q.1; passes = s }

record ReadPieces (b rs : List ℕ) : Type 0 where
  pieces : Pieces b rs (map (piece_of b) rs)
  passes : Each (PiecePasses (sheet_r b)) (map (piece_of b) rs)

pieces_held : (b : List ℕ) (k : ℕ) (rs : List ℕ) → first_no (sheet_piece_no b) k rs ≡ None → ReadPieces b rs
pieces_held b k [] e = record { pieces = no_more; passes = nothing_left }
pieces_held b k (r ∷ rs) e =
    let h = (first_none (sheet_piece_no b) k r rs).0 e in
    go (piece_held b r h.0) (pieces_held b (k + 1) rs h.1)
  where
    go : ReadPiece b r → ReadPieces b rs → ReadPieces b (r ∷ rs)
    go c i =
        record {
          pieces = rw (piece_is c.chain) (one_more {vs = c.vertices} c.chain i.pieces);
          passes = and_more c.passes i.passes;
        }

-- what a sheet holds that gets no "no"
pub record Held (b : List ℕ) : Type 0 where
  pub holds : SheetHolds b (sheet_pieces b)
  pub passes : Each (PiecePasses (sheet_r b)) (sheet_pieces b)

pub none_held : (b : List ℕ) → sheet_no b true true ≡ None → Held b
unfolding sheet_no sheet_pieces piece_records q6b
none_held b e =
    let e1 = asked (q1b b) _ e some_none in
    let e2 = asked (q2b b) _ e1.1 some_none in
    let e3 = asked (eqb (limits_no (sheet_w b) (sheet_r b) (sheet_n b)) 0) _ e2.1 some_none in
    let e6 = asked (q6b b) _ e3.1 some_none in
    let i = pieces_held b 1 (piece_records b) e6.1 in
    record {
      holds =
          record {
            q1 = (question_1 b).0 e1.0;
            q2 = (question_2 b).0 e2.0;
            limits = (limits_none (sheet_w b) (sheet_r b) (sheet_n b)).0 (eqb-true (limits_no (sheet_w b) (sheet_r b) (sheet_n b)) 0 e3.0);
            records = piece_records b;
            q6 =
                record {
                  chain = chain_of_lem (λ r. piece_number b r 2) (sheet_p b) most_pieces (first_piece b) e6.0;
                  most = chain_few (λ r. piece_number b r 2) most_pieces (first_piece b);
                };
            pieces = i.pieces;
          };
      passes = i.passes;
    }

pub few_read : (b : List ℕ) → length (sheet_pieces b) ≤ most_pieces
unfolding sheet_pieces piece_records
few_read b = omega (arith, length-map (piece_records b) (piece_of b), chain_few (λ r. piece_number b r 2) most_pieces (first_piece b))
