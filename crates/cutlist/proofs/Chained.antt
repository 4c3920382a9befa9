-- A step along a chain of piece records that ends. Assumes nothing.
use mathlib.Core.Path.{◌≡◌, refl, sym, ap, ◌∙◌}
use mathlib.Core.Bool.{true}
use mathlib.Core.List.{List, [], ◌∷◌}
use Prim.Native.Nat.{ℕ, ◌+◌, ◌≤◌, ◌<◌}
use native.Mathlib.Omega.{arith}
use lib.ListN.{length}
use Rattle.defs.specs.Meaning.Limits.{most_pieces}
use Rattle.defs.specs.Meaning.Sheet.{Chain, sheet_p, first_piece}
use Rattle.defs.specs.Computing.Test.{chain_by, ends_by}
use Rattle.defs.specs.Computing.Sheets.{q6b, piece_records}
use Rattle.laws.proofs.Walks.{chain_zero, chain_step, chain_few, ends_step}
use Rattle.laws.proofs.SheetChains.{chain_of_lem, chain_ends, chain_is}
use Rattle.reader.specs.Records.{record_number}
use Rattle.cutlist.specs.Pieces.{PieceAt, ChainEnds, ChainFrom, next_piece}

pub starts : {b : List ℕ} {v at : ℕ} → ChainEnds b v → at ≡ first_piece b → ChainFrom b v at
unfolding q6b
starts p e = rw e (record { vertices = p.vertices; in_sheet = p.in_sheet; ends = p.passes })

pub all : (b : List ℕ) {at : ℕ} → at ≡ first_piece b → chain_by (next_piece b) most_pieces at ≡ piece_records b
unfolding piece_records
all b e = rw e refl

pub none : (b : List ℕ) {at : ℕ} → at ≡ 0 → chain_by (next_piece b) most_pieces at ≡ []
none b e = rw e (chain_zero (next_piece b) most_pieces)

module _ {b : List ℕ} {v at : ℕ} (s : ChainFrom b v at) (p : at ≡ 0 → ⊥) where
  some : 0 < at
  some = omega (arith, p)

  stepped : (at ≤ sheet_p b) × (ends_by (next_piece b) (sheet_p b) 199 (next_piece b at) ≡ true)
  stepped = (ends_step (next_piece b) (sheet_p b) 199 at some).0 s.ends

  pub here : PieceAt b v at
  here = record { vertices = s.vertices; in_sheet = omega (arith, s.in_sheet, s.vertices, stepped.0) }

  chain : Chain (next_piece b) (sheet_p b) (next_piece b at) (chain_by (next_piece b) 199 (next_piece b at))
  chain = chain_of_lem (next_piece b) (sheet_p b) 199 (next_piece b at) stepped.1

  few : length (chain_by (next_piece b) 199 (next_piece b at)) ≤ most_pieces
  few = omega (arith, chain_few (next_piece b) 199 (next_piece b at))

  module _ {at' : ℕ} (e : at' ≡ record_number b (v + at) 2) where
    next_is : at' ≡ next_piece b at
    next_is = e ∙ rw s.vertices

    pub onward : ChainFrom b v at'
    onward = rw next_is (record { vertices = s.vertices; in_sheet = s.in_sheet; ends = chain_ends most_pieces chain few })

    pub rest : chain_by (next_piece b) most_pieces at ≡ at ∷ chain_by (next_piece b) most_pieces at'
    rest = rw next_is (chain_step (next_piece b) 199 at some ∙ ap (λ (rs : List ℕ). at ∷ rs) (sym (chain_is most_pieces chain few)))
