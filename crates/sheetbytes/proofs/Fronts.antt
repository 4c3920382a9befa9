-- A whole sheet: its front, its vertex records, its piece records.
-- Assumes nothing.
use mathlib.Core.Path.{◌≡◌, sym, ap, ◌∙◌}
use mathlib.Core.List.{List, ◌++◌}
use Prim.Native.Nat.{ℕ, ◌+◌, ◌*◌, ◌<◌, min}
use native.Mathlib.Omega.{arith}
use lib.ListN.{length, get_or, drop}
use lib.Seq.{sets}
use Rattle.defs.specs.Meaning.Sheet.{Piece, mark}
use Rattle.defs.specs.Computing.Sheets.{bytes_of, vertices_bytes, pieces_bytes, sheet_bytes, vertices_in, list_pieces}
use Rattle.laws.proofs.Stores.{sets_append}
use Rattle.sheets.proofs.SheetBack.{vertices_bytes_long}
use Rattle.recordbytes.specs.Fits.{ListFits}
use Rattle.sheetbytes.specs.Sheets.{SheetFits, front_bytes}
use Rattle.recordbytes.proofs.Tails.{pieces_from, tails_long}

pub front_is : (o o₀ o₁ o₂ o₃ o₄ o₅ o₆ : List ℕ) (W R N f vs P : ℕ) → o₀ ≡ sets o 0 mark → o₁ ≡ sets o₀ 4 (bytes_of W) →
    o₂ ≡ sets o₁ 6 (bytes_of R) → o₃ ≡ sets o₂ 8 (bytes_of N) → o₄ ≡ sets o₃ 10 (bytes_of f) → o₅ ≡ sets o₄ 12 (bytes_of vs) →
    o₆ ≡ sets o₅ 14 (bytes_of P) → o₆ ≡ sets o 0 (front_bytes W R N f vs P)
front_is o o₀ o₁ o₂ o₃ o₄ o₅ o₆ W R N f vs P m a b c d e g = rw (g, e, d, c, b, a, m)

-- the three parts, each stored after the one before
pub sheet_is : (list o o₁ o₂ o₃ : List ℕ) (W R N f v p : ℕ) → v ≡ vertices_in (list_pieces list) → p ≡ get_or list 0 0 → f ≡ min 1 p →
    o₁ ≡ sets o 0 (front_bytes W R N f v p) → o₂ ≡ sets o₁ 16 (vertices_bytes 1 (pieces_from list 1 p)) →
    o₃ ≡ sets o₂ (16 + 6 * v) (pieces_bytes 1 1 (pieces_from list 1 p)) → o₃ ≡ sets o 0 (sheet_bytes W R N (list_pieces list))
unfolding list_pieces
sheet_is list o o₁ o₂ o₃ W R N f v p ev ep ef a b c =
    let ps : List Piece = pieces_from list 1 (get_or list 0 0) in
    let n : p ≡ length ps = ep ∙ sym (tails_long (get_or list 0 0) (drop 1 list)) in
    let front : front_bytes W R N f v p ≡ front_bytes W R N (min 1 (length ps)) (vertices_in ps) (length ps) =
    ap (λ (x : ℕ). front_bytes W R N x v p) (ef ∙ ap (min 1) n) ∙
    ap (λ (x : ℕ). front_bytes W R N (min 1 (length ps)) x p) ev ∙
    ap (λ (x : ℕ). front_bytes W R N (min 1 (length ps)) (vertices_in ps) x) n in
    let vertices : o₂ ≡ sets o₁ 16 (vertices_bytes 1 ps) =
    b ∙ ap (λ (x : ℕ). sets o₁ 16 (vertices_bytes 1 (pieces_from list 1 x))) ep in
    let place : 16 + 6 * v ≡ 16 + length (vertices_bytes 1 ps) = omega (arith, ev, vertices_bytes_long 1 ps) in
    let pieces : o₃ ≡ sets o₂ (16 + length (vertices_bytes 1 ps)) (pieces_bytes 1 1 ps) =
    c ∙ ap (λ (x : ℕ). sets o₂ (16 + 6 * v) (pieces_bytes 1 1 (pieces_from list 1 x))) ep ∙
    ap (λ (x : ℕ). sets o₂ x (pieces_bytes 1 1 ps)) place in
    pieces ∙ ap (λ (x : List ℕ). sets x (16 + length (vertices_bytes 1 ps)) (pieces_bytes 1 1 ps)) vertices ∙
    sym (sets_append o₁ (vertices_bytes 1 ps) (pieces_bytes 1 1 ps) 16) ∙
    ap (λ (x : List ℕ). sets x 16 (vertices_bytes 1 ps ++ pieces_bytes 1 1 ps)) (a ∙ ap (sets o 0) front)

pub still_fits : {list out out' : List ℕ} {v : ℕ} → SheetFits list v out → length out' ≡ length out → ListFits list (get_or list 0 0) out'
still_fits s e =
    record {
      complete = s.list_fits.complete;
      in_out = omega (arith, s.list_fits.in_out, e);
      vertices_few = s.list_fits.vertices_few;
      pieces_few = s.list_fits.pieces_few;
    }

pub vertices_small : {list out : List ℕ} {v : ℕ} → SheetFits list v out → v < 65535
unfolding list_pieces
vertices_small s = omega (arith, s.vertices, s.list_fits.vertices_few)
