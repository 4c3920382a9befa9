-- The piece of a piece record that passes its questions: its words are gathered, and its outline passes 7 to 10. Assumes nothing.
use mathlib.Core.Path.{◌≡◌, refl, sym, ◌∙◌}
use mathlib.Core.List.{List}
use Prim.Native.Nat.{ℕ, ◌+◌, ◌*◌, ◌≤◌}
use lib.ListN.{length, take}
use Rattle.std.specs.Prelude.{Option, Some, None, IsSome}
use Rattle.defs.specs.Meaning.Limits.{most_vertices}
use Rattle.defs.specs.Meaning.Sheet.{sheet_r, sheet_v, piece_number}
use Rattle.defs.specs.Computing.Test.{ends_by}
use Rattle.defs.specs.Computing.Calls.{q9b, outline_no}
use Rattle.defs.specs.Computing.Sheets.{piece_of, sheet_piece_no}
use Rattle.defs.specs.Computing.Cells.{Rows}
use Rattle.laws.proofs.Tests.{asked}
use Rattle.geom.proofs.Checks.{none_no_is}
use Rattle.tables.proofs.Copies.{NoneBefore}
use Rattle.asked.proofs.InOrder.{Ordered}
use Rattle.sheets.proofs.Asking.{not_zero}
use Rattle.sheets.proofs.Chains.{Ill}
use Rattle.reader.specs.Records.{record_number}
use Rattle.records.specs.Records.{next_vertex, Gathered, Gathers}
use Rattle.records.proofs.Copies.{outline_is}
use Rattle.cutlist.specs.Pieces.{PieceAt}
use Rattle.cutlist.proofs.Words.{not_ill}

mask_of : (b : List ℕ) (at : ℕ) → (piece_of b at).mask ≡ piece_number b at 1
unfolding piece_of
mask_of b at = refl

-- a piece that passes its questions passes 7 to 10
pub piece_ordered : (b : List ℕ) (at : ℕ) → sheet_piece_no b at ≡ 0 →
    Ordered (piece_of b at).outline (q9b (piece_of b at).mask) (piece_of b at).mask
unfolding sheet_piece_no
piece_ordered b at pass =
    let p = piece_of b at in
    let ends = ends_by (next_vertex b) (sheet_v b) most_vertices (piece_number b at 0) in
    let none = (asked ends (λ _. outline_no p.outline (q9b p.mask) p.mask (sheet_r b)) pass not_zero).1 in
    let y = (none_no_is p.outline (q9b p.mask) p.mask (sheet_r b)).0 none in
    record { seven = y.0; eight = y.1; nine = y.2; ten = y.3 }

module _ (b : List ℕ) (at : ℕ) {v f : ℕ} (here : PieceAt b v at) (ef : f ≡ record_number b (v + at) 0) (pass : sheet_piece_no b at ≡ 0) where
  not_broken : Ill (next_vertex b) v most_vertices f → ⊥
  unfolding sheet_piece_no
  not_broken i = not_ill b at here ef (record { ends = (asked _ _ pass not_zero).0 }) i

  -- so its vertices are found
  pub found : (w w' : List ℕ) (r : Option ℕ) → Gathers b v f w w' r → IsSome r
  found w w' (Some k) g = refl
  found w w' None i = absurd (not_broken i)

  module _ {k m : ℕ} {w w' : List ℕ} (words : Gathered b v f w w' k) (l : 128 ≤ length w) (em : m ≡ record_number b (v + at) 1) where
    pub outline : take (2 * k) w' ≡ (piece_of b at).outline
    outline = outline_is b at here.vertices ef words l

    pub mask : m ≡ (piece_of b at).mask
    mask = em ∙ rw here.vertices (sym (mask_of b at))

    pub ordered : Ordered (take (2 * k) w') (q9b m) m
    ordered = rw (outline, mask) (piece_ordered b at pass)

    -- what is known of the piece is known of its words
    pub none_before : {W R N g lower : ℕ} (held : List (List Rows)) →
        NoneBefore W R N g held (piece_of b at).outline (piece_of b at).mask lower → NoneBefore W R N g held (take (2 * k) w') m lower
    none_before held h = rw (outline, mask) h
