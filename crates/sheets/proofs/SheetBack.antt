-- A written sheet: its length, the numbers of its front, and that it holds the pieces it was written from.
-- Assumes nothing.
use mathlib.Core.Path.{◌≡◌, refl, sym, ap, ◌∙◌}
use mathlib.Core.List.{List, [], ◌∷◌, ◌++◌, append_assoc, append-nil}
use Prim.Native.Nat.{ℕ, ◌+◌, ◌*◌, ◌/◌, ◌≤◌, min}
use native.Mathlib.Omega.{arith}
use lib.ListN.{length, length-append}
use Rattle.defs.specs.Meaning.Limits.{most_pieces, most_bytes}
use Rattle.defs.specs.Meaning.Strip.{Limits}
use Rattle.defs.specs.Meaning.Sheet.{mark, sheet_w, sheet_r, sheet_n, sheet_v, sheet_p, first_piece, done, Piece, no_more, SheetHolds}
use Rattle.defs.specs.Computing.Sheets.{bytes_of, record_bytes, outline_bytes, vertices_bytes, pieces_bytes, vertices_in, size_of, sheet_bytes}
use Rattle.sheets.proofs.PiecesBack.{Each, Shaped, PiecesRead, pieces_read, outline_bytes_long}

pub vertices_bytes_long : (v : ℕ) (ps : List Piece) → length (vertices_bytes v ps) ≡ 6 * vertices_in ps
unfolding vertices_bytes vertices_in
vertices_bytes_long v [] = refl
vertices_bytes_long v (p ∷ ps) =
    length-append (outline_bytes v p.outline) (vertices_bytes (v + length p.outline / 2) ps) ∙
    omega (arith, outline_bytes_long v p.outline, vertices_bytes_long (v + length p.outline / 2) ps)

pub pieces_bytes_long : (r v : ℕ) (ps : List Piece) → length (pieces_bytes r v ps) ≡ 6 * length ps
unfolding pieces_bytes
pieces_bytes_long r v [] = refl
pieces_bytes_long r v (p ∷ []) = refl
pieces_bytes_long r v (p ∷ (p' ∷ ps)) =
    length-append (record_bytes v p.mask (r + 1)) (pieces_bytes (r + 1) (v + length p.outline / 2) (p' ∷ ps)) ∙
    omega (arith, pieces_bytes_long (r + 1) (v + length p.outline / 2) (p' ∷ ps))

module _ (W R N : ℕ) (ps : List Piece) where
  -- the first 16 bytes
  abbrev front : List ℕ
  front =
      mark ++ bytes_of W ++ bytes_of R ++ bytes_of N ++ bytes_of (min 1 (length ps)) ++ bytes_of (vertices_in ps) ++ bytes_of (length ps)

  abbrev sheet : List ℕ
  sheet = sheet_bytes W R N ps

  pub sheet_long : length sheet ≡ size_of ps
  sheet_long =
      omega (arith, length-append (vertices_bytes 1 ps) (pieces_bytes 1 1 ps), vertices_bytes_long 1 ps, pieces_bytes_long 1 1 ps)

  pub back_W : sheet_w sheet ≡ W
  back_W = omega arith

  pub back_R : sheet_r sheet ≡ R
  back_R = omega arith

  pub back_N : sheet_n sheet ≡ N
  back_N = omega arith

  pub back_first : first_piece sheet ≡ min 1 (length ps)
  back_first = omega arith

  pub back_V : sheet_v sheet ≡ vertices_in ps
  back_V = omega arith

  pub back_P : sheet_p sheet ≡ length ps
  back_P = omega arith

from : (b : List ℕ) (f : ℕ) (ps : List Piece) → first_piece b ≡ f → PiecesRead b f ps → PiecesRead b (first_piece b) ps
from b f ps e c = rw e c

chained : (W R N : ℕ) (ps : List Piece) → Each Shaped ps → PiecesRead (sheet_bytes W R N ps) (first_piece (sheet_bytes W R N ps)) ps
chained W R N [] s =
    from (sheet_bytes W R N []) 0 [] (back_first W R N []) (record { records = []; chain = done; pieces = no_more; long = refl })
chained W R N (p ∷ ps) s = from b 1 all (back_first W R N all ∙ omega arith) read
  where
    all : List Piece
    all = p ∷ ps

    b : List ℕ
    b = sheet_bytes W R N all

    start : List ℕ
    start = front W R N all

    split : b ≡ (start ++ vertices_bytes 1 all) ++ (pieces_bytes 1 1 all ++ [])
    split =
        ap (λ (x : List ℕ). start ++ (vertices_bytes 1 all ++ x)) (sym (append-nil (pieces_bytes 1 1 all))) ∙
        sym (append_assoc start (vertices_bytes 1 all) (pieces_bytes 1 1 all ++ []))

    read : PiecesRead b 1 all
    read =
        pieces_read b start (pieces_bytes 1 1 all) (start ++ vertices_bytes 1 all) [] 1 1 p ps refl refl (omega arith)
        (omega (arith, back_V W R N all)) split
        (length-append start (vertices_bytes 1 all) ∙ omega (arith, vertices_bytes_long 1 all, back_V W R N all)) (omega arith)
        (omega (arith, back_P W R N all)) s

-- what is written holds its pieces
pub sheet_back : (W R N : ℕ) (ps : List Piece) → Limits W R N → Each Shaped ps → length ps ≤ most_pieces → size_of ps ≤ most_bytes →
    SheetHolds (sheet_bytes W R N ps) ps
sheet_back W R N ps l s few size =
    let c = chained W R N ps s in
    record {
      q1 = record { long = omega (arith, sheet_long W R N ps); begins = refl };
      q2 =
          record {
            fits = sheet_long W R N ps ∙ omega (arith, back_V W R N ps, back_P W R N ps);
            most = omega (arith, sheet_long W R N ps);
          };
      limits = rw (back_W W R N ps, back_R W R N ps, back_N W R N ps) l;
      records = c.records;
      q6 = record { chain = c.chain; most = omega (arith, c.long) };
      pieces = c.pieces;
    }
