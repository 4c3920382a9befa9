-- The words of one piece: asked, counted, and put one after another.
-- Assumes nothing.
use mathlib.Core.Path.{◌≡◌, refl, sym, ap, ◌∙◌}
use mathlib.Core.Bool.{Bool, true≢false}
use mathlib.Core.List.{List}
use Prim.Native.Nat.{ℕ, suc, ◌+◌, ◌*◌, ◌/◌, ◌≤◌}
use native.Mathlib.Omega.{arith}
use native.Mathlib.Numerals.{add-one}
use native.Mathlib.Nat.{zero-add}
use lib.ListN.{length, set, take}
use lib.Seq.{sets, length-take-le}
use Rattle.defs.specs.Meaning.Limits.{most_vertices}
use Rattle.defs.specs.Meaning.Sheet.{sheet_v, sheet_r, piece_number, piece_words}
use Rattle.defs.specs.Computing.Test.{chain_by}
use Rattle.defs.specs.Computing.Calls.{q9b}
use Rattle.defs.specs.Computing.Sheets.{piece_of, vertices_of, sheet_piece_no}
use Rattle.laws.proofs.SheetChains.{length-vertex_words}
use Rattle.laws.proofs.Walks.{chain_few}
use Rattle.asked.specs.Answers.{FirstNo}
use Rattle.sheets.proofs.Chains.{Ends, Ill, chain_more}
use Rattle.reader.specs.Records.{record_number}
use Rattle.records.specs.Records.{next_vertex, Gathered}
use Rattle.records.proofs.Copies.{outline_is, piece_ends, piece_ill, gathered_long}
use Rattle.words.specs.Put.{Put}
use Rattle.cutlist.specs.Pieces.{PieceAt, VertexEnds, PieceFits, PieceCounted}

mask_of : (b : List ℕ) (at : ℕ) → (piece_of b at).mask ≡ piece_number b at 1
unfolding piece_of
mask_of b at = refl

pub ends_few : {next : ℕ → ℕ} {most n r k : ℕ} → Ends next most n r k → k ≤ n
ends_few {next} {most} {n} {r} e = omega (arith, e.long, chain_few next n r)

-- vertex records are the records after none
from_none : (b : List ℕ) → (λ (x : ℕ). record_number b (0 + x) 2) ≡ next_vertex b
from_none b = λ i x. record_number b (zero-add x i) 2

-- piece record `at`, whose first vertex is f
module _ (b : List ℕ) (at : ℕ) {v f : ℕ} (here : PieceAt b v at) (ef : f ≡ record_number b (v + at) 0) where
  mask_is : {m : ℕ} → m ≡ record_number b (v + at) 1 → m ≡ (piece_of b at).mask
  mask_is em = em ∙ rw here.vertices (sym (mask_of b at))

  -- 7 by the walk
  pub no_7 : Ill (next_vertex b) v most_vertices f → 7 ≡ sheet_piece_no b at
  unfolding sheet_piece_no
  no_7 i = rw (piece_ill b at here.vertices ef i)

  -- a chain that ends is not ill
  pub not_ill : VertexEnds b at → Ill (next_vertex b) v most_vertices f → ⊥
  not_ill e i = true≢false (sym e.ends ∙ piece_ill b at here.vertices ef i)

  pub not_broken : VertexEnds b at → Ill (λ x. record_number b (0 + x) 2) v most_vertices f → ⊥
  not_broken e i = not_ill e (rw (from_none b) at i)

  -- the walk counts the words
  pub piece_counted : {k : ℕ} → VertexEnds b at → Ends (λ x. record_number b (0 + x) 2) v most_vertices f k → PieceCounted b at (2 + 2 * k)
  unfolding piece_of vertices_of
  piece_counted {k} e h =
      let g : Ends (next_vertex b) v most_vertices f k = rw (from_none b) at h in
      let first : f ≡ piece_number b at 0 = ef ∙ rw here.vertices in
      let more = chain_more (next_vertex b) (sheet_v b) most_vertices (piece_number b at 0) e.ends in
      let long : length (chain_by (next_vertex b) (most_vertices + 1) (piece_number b at 0)) ≡ k =
      ap length more ∙ ap (λ (r : ℕ). length (chain_by (next_vertex b) most_vertices r)) (sym first) ∙ g.long in
      record {
        count = omega (arith, long, length-vertex_words b (chain_by (next_vertex b) (most_vertices + 1) (piece_number b at 0)));
        few = omega (arith, ends_few g);
      }

  -- the words of the piece are gathered
  module _ {k : ℕ} {w w' : List ℕ} (g : Gathered b v f w w' k) (l : 128 ≤ length w) where
    outline : take (2 * k) w' ≡ (piece_of b at).outline
    outline = outline_is b at here.vertices ef g l

    -- the rest of 7, and 8 to 11, by the outline
    pub no_of : {m r : ℕ} {ninth : Bool} → m ≡ record_number b (v + at) 1 → 1 ≤ sheet_r b → ninth ≡ q9b m →
        FirstNo (take (2 * k) w') ninth m r → r ≡ sheet_piece_no b at
    unfolding sheet_piece_no
    no_of em h n t =
        t.every (sheet_r b) h ∙ rw (n, outline, mask_is em, piece_ends b at here.vertices ef g)

    outline_long : length (piece_of b at).outline ≡ 2 * k
    outline_long = ap length (sym outline) ∙ length-take-le (2 * k) w' (omega (arith, g.few, gathered_long g))

    -- the stores in the code's order are those of the piece's words
    pub piece_put : (out out' : List ℕ) (to m : ℕ) → m ≡ record_number b (v + at) 1 →
        out' ≡ sets (set (set out to k) (to + 1) m) (to + 2) (take (2 * k) w') →
        Put out out' to (piece_words (piece_of b at)) (to + 2 + 2 * k)
    piece_put out out' to m em e =
        let i : to + 2 ≡ suc (suc to) = omega arith in
        let h : length (piece_of b at).outline / 2 ≡ k = omega (arith, outline_long) in
        record {
          words = e ∙ rw (i, add-one to, mask_is em, outline, ← h);
          after = omega (arith, outline_long);
        }

    pub piece_room : {out : List ℕ} {to : ℕ} → PieceFits b v at out to → to + 2 + 2 * k ≤ length out
    piece_room p = omega (arith, p.room, outline_long)

    pub copy_room : {out : List ℕ} {to : ℕ} → PieceFits b v at out to → to + 2 + length (take (2 * k) w') ≤ length out
    copy_room p = omega (arith, p.room, outline_long, ap length outline)
