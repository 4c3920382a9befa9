-- The piece chain, and a vertex chain copied into words: what is left to copy gives the whole.
-- Assumes nothing.
use mathlib.Core.Path.{◌≡◌, refl, sym, ap, ◌∙◌}
use mathlib.Core.List.{List, [], ◌∷◌}
use mathlib.Core.Bool.{true, false}
use mathlib.Core.Logic.{◌⊎◌, inl, inr}
use Prim.Native.Nat.{ℕ, suc, ◌+◌, ◌-◌, ◌*◌, ◌≤◌, ◌<◌}
use native.Mathlib.Omega.{arith}
use lib.ListN.{length, set, take}
use lib.Seq.{sets, sets-eq, length-sets, take_at}
use Rattle.std.specs.Prelude.{Option, Some, None}
use Rattle.defs.specs.Meaning.Limits.{most_vertices, most_pieces}
use Rattle.defs.specs.Meaning.Sheet.{sheet_v, sheet_p, first_piece, piece_number, vertex_number, vertex_words}
use Rattle.defs.specs.Computing.Test.{chain_by, ends_by}
use Rattle.defs.specs.Computing.Sheets.{q6b, piece_records, piece_of, vertices_of}
use Rattle.laws.proofs.Walks.{chain_step, chain_zero}
use Rattle.laws.proofs.SheetChains.{length-vertex_words}
use Rattle.sheets.proofs.Chains.{Ends, Ill, Walk, walk_start, walk_next, walk_long, walk_past, walk_end, chain_more}
use Rattle.reader.specs.Records.{record_number}
use Rattle.records.specs.Records.{Chains, PieceChains, next_vertex, Gathered}

-- question 6
pub piece_chains : (b : List ℕ) (v p f : ℕ) (r : Option ℕ) → v ≡ sheet_v b → p ≡ sheet_p b → f ≡ first_piece b →
    Chains (λ x. record_number b (v + x) 2) p most_pieces f r → PieceChains b r
unfolding q6b piece_records
piece_chains b v p f (Some k) e g h c =
    let d : Ends (λ x. record_number b (sheet_v b + x) 2) (sheet_p b) most_pieces (first_piece b) k = rw (e, g, h) at c in
    record { passes = d.ends; long = d.long }
piece_chains b v p f None e g h c =
    let d : Ill (λ x. record_number b (sheet_v b + x) 2) (sheet_p b) most_pieces (first_piece b) = rw (e, g, h) at c in
    record { fails = d.ill }

-- a walk ends where no record is left, or the next is not in the sheet
pub walk_out : {next : ℕ → ℕ} {most n r at left : ℕ} {X : Type 0} → Walk next most n r at left → 0 < at →
    (left ≡ 0) ⊎ (X × (most < at)) → Ill next most n r
walk_out w p (inl e) = walk_long w p e
walk_out w p (inr q) = walk_past w p q.1

-- k vertices are copied
pub record Gathering (b : List ℕ) (most r : ℕ) (w₀ w : List ℕ) (at k : ℕ) : Type 0 where
  pub few : k ≤ most_vertices
  pub walk : Walk (next_vertex b) most most_vertices r at (most_vertices - k)
  pub words :
      sets w (2 * k) (vertex_words b (chain_by (next_vertex b) (most_vertices - k) at)) ≡
      sets w₀ 0 (vertex_words b (chain_by (next_vertex b) most_vertices r))

pub gather_start : (b : List ℕ) (most r : ℕ) (w : List ℕ) → Gathering b most r w w r 0
gather_start b most r w = record { few = omega arith; walk = walk_start refl; words = refl }

module _ {b : List ℕ} {most r : ℕ} {w₀ w : List ℕ} where
  pub gather_next : {at k x y at' : ℕ} → Gathering b most r w₀ w at k → 0 < at → at ≤ most → k < 64 → x ≡ vertex_number b at 0 →
      y ≡ vertex_number b at 1 → at' ≡ vertex_number b at 2 → Gathering b most r w₀ (set (set w (2 * k) x) (2 * k + 1) y) at' (k + 1)
  gather_next {at} {k} {x} {y} {at'} g p q l ex ey en =
      record {
        few = omega arith;
        walk = walk_next g.walk p q (omega arith) en;
        words =
            let i : 2 * k + 1 ≡ suc (2 * k) = omega arith in
            let j : 2 * (k + 1) ≡ suc (suc (2 * k)) = omega arith in
            let z : most_vertices - k ≡ suc (most_vertices - (k + 1)) = omega arith in
            let s : chain_by (next_vertex b) (most_vertices - k) at ≡
            at ∷ chain_by (next_vertex b) (most_vertices - (k + 1)) (next_vertex b at) =
            rw z (chain_step (next_vertex b) (most_vertices - (k + 1)) at p) in
            rw (ex, ey, en, i, j) (rw s at g.words);
      }

  pub gather_out : {at k : ℕ} {X : Type 0} → Gathering b most r w₀ w at k → 0 < at → (64 ≤ k) ⊎ (X × (most < at)) →
      Ill (next_vertex b) most most_vertices r
  gather_out g p (inl l) = walk_long g.walk p (omega arith)
  gather_out g p (inr q) = walk_past g.walk p q.1

  pub gather_end : {at k : ℕ} → Gathering b most r w₀ w at k → at ≡ 0 → Gathered b most r w₀ w k
  gather_end {at} {k} g e =
      let s : chain_by (next_vertex b) (most_vertices - k) at ≡ [] = rw e (chain_zero (next_vertex b) (most_vertices - k)) in
      let i : most_vertices - (most_vertices - k) ≡ k = omega (arith, g.few) in
      record { ends = rw i at (walk_end g.walk e); few = g.few; words = rw s at g.words }

module _ {b : List ℕ} {most r k : ℕ} {w w' : List ℕ} (g : Gathered b most r w w' k) where
  pub gathered_long : length w' ≡ length w
  gathered_long = ap length g.words ∙ length-sets w 0 (vertex_words b (chain_by (next_vertex b) most_vertices r))

  -- the words lent on
  pub gathered_part : 128 ≤ length w → take (2 * k) w' ≡ vertex_words b (chain_by (next_vertex b) most_vertices r)
  gathered_part l = rw g.words (rw (sets-eq vs w 0 (omega (arith, long, g.few))) (take_at vs _ (2 * k) long))
    where
      vs : List ℕ
      vs = vertex_words b (chain_by (next_vertex b) most_vertices r)

      long : length vs ≡ 2 * k
      long = length-vertex_words b (chain_by (next_vertex b) most_vertices r) ∙ ap (λ (n : ℕ). 2 * n) g.ends.long

-- piece record `at`, whose first vertex is f
module _ (b : List ℕ) (at : ℕ) {v f : ℕ} (ev : v ≡ sheet_v b) (er : f ≡ record_number b (v + at) 0) where
  first_is : f ≡ piece_number b at 0
  first_is = er ∙ rw ev

  pub piece_ill : Ill (next_vertex b) v most_vertices f → ends_by (next_vertex b) (sheet_v b) most_vertices (piece_number b at 0) ≡ false
  piece_ill i =
      let h : Ill (next_vertex b) (sheet_v b) most_vertices (piece_number b at 0) = rw (ev, first_is) at i in h.ill

  module _ {k : ℕ} {w w' : List ℕ} (g : Gathered b v f w w' k) where
    pub piece_ends : ends_by (next_vertex b) (sheet_v b) most_vertices (piece_number b at 0) ≡ true
    piece_ends = let h : Gathered b (sheet_v b) (piece_number b at 0) w w' k = rw (ev, first_is) at g in h.ends.ends

    pub outline_is : 128 ≤ length w → take (2 * k) w' ≡ (piece_of b at).outline
    unfolding piece_of vertices_of
    outline_is l =
        gathered_part g l ∙
        rw first_is (ap (vertex_words b) (sym (chain_more (next_vertex b) (sheet_v b) most_vertices (piece_number b at 0) piece_ends)))
