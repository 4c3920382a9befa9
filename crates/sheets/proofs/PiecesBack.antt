-- The piece records of a written sheet, read back: by induction over the pieces, with the same bytes split once before the vertex
-- records that are left and once before the piece records that are left.
-- Assumes nothing.
use mathlib.Core.Path.{◌≡◌, refl, sym, ap, ◌∙◌}
use mathlib.Core.List.{List, [], ◌∷◌, ◌++◌, append_assoc}
use Prim.Native.Nat.{ℕ, suc, ◌+◌, ◌*◌, ◌/◌, ◌<◌}
use native.Mathlib.Omega.{arith}
use lib.ListN.{length, length-append}
use Rattle.defs.specs.Meaning.Sheet.{vertex_number, piece_number, sheet_v, sheet_p, vertex_words, Chain, done, Piece, VertexChain, Pieces, no_more, one_more}
use Rattle.defs.specs.Meaning.Question.{Question7}
use Rattle.defs.specs.Computing.Sheets.{record_bytes, outline_bytes, vertices_bytes, pieces_bytes, vertices_in}
use Rattle.sheets.proofs.Chains.{linked}
use Rattle.sheets.proofs.Bytes.{Told, record_here, OutlineRead, outline_read}

-- each piece of a list
pub data Each (P : Piece → Type 0) : List Piece → Type 0 where
  nothing_left : Each P []
  and_more : {p : Piece} {ps : List Piece} → P p → Each P ps → Each P (p ∷ ps)

-- its outline has vertices to write
abbrev pub Shaped : Piece → Type 0
Shaped p = Question7 p.outline

pub record PiecesRead (b : List ℕ) (r : ℕ) (ps : List Piece) : Type 0 where
  pub records : List ℕ
  pub chain : Chain (λ x. piece_number b x 2) (sheet_p b) r records
  pub pieces : Pieces b records ps
  pub long : length records ≡ length ps

one : (b : List ℕ) (r : ℕ) {rs vs : List ℕ} {ps : List Piece} (m : ℕ) (o : List ℕ) → VertexChain b r vs → piece_number b r 1 ≡ m →
    vertex_words b vs ≡ o → Pieces b rs ps → Pieces b (r ∷ rs) (record { mask = m; outline = o } ∷ ps)
one b r {rs} {vs} {ps} m o c e f q = rw (← e, ← f) (one_more {rs = rs} {vs = vs} {ps = ps} c q)

chain_from : (b : List ℕ) (r v : ℕ) {vs : List ℕ} → piece_number b r 0 ≡ v → Chain (λ x. vertex_number b x 2) (sheet_v b) v vs →
    Chain (λ x. vertex_number b x 2) (sheet_v b) (piece_number b r 0) vs
chain_from b r v e c = rw e c

-- piece p of record r: its first vertex is v
piece_read : (b : List ℕ) (v r z : ℕ) (p : Piece) → Told b (sheet_v b + r) v p.mask z → OutlineRead b (sheet_v b) v p.outline →
    Shaped p → {rs : List ℕ} {ps : List Piece} → Pieces b rs ps → Pieces b (r ∷ rs) (p ∷ ps)
piece_read b v r z p t o s q =
    one b r p.mask p.outline
    (record {
      chain = chain_from b r v t.first o.chain;
      count =
          record {
            at_least = omega (arith, o.long, s.words.at_least);
            at_most = omega (arith, o.long, s.words.at_most);
          };
    })
    t.second o.words q

pub outline_bytes_long : (v : ℕ) (o : List ℕ) → length (outline_bytes v o) ≡ 6 * (length o / 2)
unfolding outline_bytes
outline_bytes_long v [] = refl
outline_bytes_long v (x ∷ []) = refl
outline_bytes_long v (x ∷ (y ∷ [])) = refl
outline_bytes_long v (x ∷ (y ∷ (z ∷ ws))) =
    omega (arith, outline_bytes_long (v + 1) (z ∷ ws), length-append (record_bytes x y (v + 1)) (outline_bytes (v + 1) (z ∷ ws)))

pub pieces_read : (b preV postV preP postP : List ℕ) (v r : ℕ) (p : Piece) (ps : List Piece) →
    b ≡ preV ++ (vertices_bytes v (p ∷ ps) ++ postV) → length preV ≡ 10 + 6 * v → 0 < v → v + vertices_in (p ∷ ps) ≡ sheet_v b + 1 →
    b ≡ preP ++ (pieces_bytes r v (p ∷ ps) ++ postP) → length preP ≡ 10 + 6 * (sheet_v b + r) → 0 < r →
    r + length (p ∷ ps) ≡ sheet_p b + 1 → Each Shaped (p ∷ ps) → PiecesRead b r (p ∷ ps)
unfolding vertices_bytes pieces_bytes vertices_in
pieces_read b preV postV preP postP v r p [] ev lv v0 vs ep lp r0 rs (and_more s ss) =
    let t = record_here b preP postP (sheet_v b + r) v p.mask 0 ep lp in
    let o =
    outline_read b preV postV (sheet_v b) v p.outline
    (ev ∙ ap (λ (x : List ℕ). preV ++ x) (append_assoc (outline_bytes v p.outline) [] postV)) lv v0
    (omega (arith, s.even)) (omega (arith, s.words.at_least)) s.even in
    record {
      records = r ∷ [];
      chain = linked (λ x. piece_number b x 2) r0 (omega arith) t.next done;
      pieces = piece_read b v r 0 p t o s no_more;
      long = refl;
    }
pieces_read b preV postV preP postP v r p (p' ∷ ps) ev lv v0 vs ep lp r0 rs (and_more s ss) =
    go
    (pieces_read b (preV ++ outline_bytes v p.outline) postV (preP ++ here) postP (v + n) (r + 1) p' ps
    (ev' ∙ sym (append_assoc preV (outline_bytes v p.outline) _))
    (length-append preV (outline_bytes v p.outline) ∙ omega (arith, outline_bytes_long v p.outline)) (omega arith) (omega arith)
    (ep ∙ sym (append_assoc preP here _)) (length-append preP here ∙ omega arith) (omega arith) (omega arith) ss)
  where
    n : ℕ
    n = length p.outline / 2

    here : List ℕ
    here = record_bytes v p.mask (r + 1)

    ev' : b ≡ preV ++ (outline_bytes v p.outline ++ (vertices_bytes (v + n) (p' ∷ ps) ++ postV))
    ev' = ev ∙ ap (λ (x : List ℕ). preV ++ x) (append_assoc (outline_bytes v p.outline) (vertices_bytes (v + n) (p' ∷ ps)) postV)

    t : Told b (sheet_v b + r) v p.mask (r + 1)
    t = record_here b preP (pieces_bytes (r + 1) (v + n) (p' ∷ ps) ++ postP) (sheet_v b + r) v p.mask (r + 1) ep lp

    o : OutlineRead b (sheet_v b) v p.outline
    o =
        outline_read b preV (vertices_bytes (v + n) (p' ∷ ps) ++ postV) (sheet_v b) v p.outline ev' lv v0 (omega (arith, s.even))
        (omega (arith, s.words.at_least)) s.even

    go : PiecesRead b (r + 1) (p' ∷ ps) → PiecesRead b r (p ∷ (p' ∷ ps))
    go i =
        record {
          records = r ∷ i.records;
          chain = linked (λ x. piece_number b x 2) r0 (omega arith) t.next i.chain;
          pieces = piece_read b v r (r + 1) p t o s i.pieces;
          long = ap suc i.long;
        }
