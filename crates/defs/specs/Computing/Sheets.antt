-- What read and write answer, and what they leave in each lent buffer. Assumes nothing.
use Rattle.std.specs.Prelude.{◌≡◌, Bool, true, cond, ◌&&◌, List, [], ◌∷◌, ◌++◌, map, ℕ, zero, suc, ◌+◌, ◌*◌, ◌/◌, ◌%◌, min, leb, eqb, length, get_or, drop, Option, Some, None, Result, Ok, Err}
use Rattle.defs.specs.declared.Refusal.{Refusal}
use Rattle.defs.specs.declared.Figures.{Figures}
use Rattle.defs.specs.Meaning.Limits.{least_vertices, most_vertices, most_pieces, most_bytes}
use Rattle.defs.specs.Meaning.Sheet.{Piece, mark, sheet_w, sheet_r, sheet_n, sheet_v, sheet_p, first_piece, vertex_number, piece_number, vertex_words, list_words, list_piece, after_piece}
use Rattle.defs.specs.Computing.Test.{ask, chain_by, ends_by}
use Rattle.defs.specs.Computing.Words.{limits_no}
use Rattle.defs.specs.Computing.Calls.{refusal, q9b, outline_no}

unfoldable pub q1b : List ℕ → Bool
q1b b =
    leb 16 (length b) &&
    ((eqb (get_or b 0 0) (get_or mark 0 0) && eqb (get_or b 1 0) (get_or mark 1 0)) &&
    (eqb (get_or b 2 0) (get_or mark 2 0) && eqb (get_or b 3 0) (get_or mark 3 0)))

unfoldable pub q2b : List ℕ → Bool
q2b b = eqb (length b) (16 + 6 * sheet_v b + 6 * sheet_p b) && leb (length b) most_bytes

unfoldable pub q6b : List ℕ → Bool
q6b b = ends_by (λ r. piece_number b r 2) (sheet_p b) most_pieces (first_piece b)

-- The piece records of the chain.
unfoldable pub piece_records : List ℕ → List ℕ
piece_records b = chain_by (λ r. piece_number b r 2) most_pieces (first_piece b)

unfoldable pub vertices_of : List ℕ → ℕ → List ℕ
vertices_of b r = chain_by (λ v. vertex_number b v 2) (most_vertices + 1) (piece_number b r 0)

-- the piece of piece record r
unfoldable pub piece_of : List ℕ → ℕ → Piece
piece_of b r = record { mask = piece_number b r 1; outline = vertex_words b (vertices_of b r) }

-- The first of 7 to 11 that gets "no" for piece record r, else 0.
unfoldable pub sheet_piece_no : List ℕ → ℕ → ℕ
sheet_piece_no b r =
    ask (ends_by (λ v. vertex_number b v 2) (sheet_v b) most_vertices (piece_number b r 0)) 7 λ _.
    let p = piece_of b r in
    outline_no p.outline (q9b p.mask) p.mask (sheet_r b)

-- "7 to 11 piece by piece": the first piece with a "no", its place counted from k
unfoldable pub first_no {ℓ} : {A : Type ℓ} → (A → ℕ) → ℕ → List A → Option Refusal
first_no f k [] = None
first_no f k (x ∷ xs) =
    let r = first_no f (k + 1) xs in
    let n = f x in
    cond (eqb n 0) r (Some (refusal n k))

-- the first of 1 to 3, 16, 17, 6 to 11 that gets "no"; 21 and 4 stand before 6 where a gap is given and a strip lent
unfoldable pub sheet_no : List ℕ → Bool → Bool → Option Refusal
sheet_no b gap fourth =
    ask (q1b b) (Some (refusal 1 0)) λ _.
    ask (q2b b) (Some (refusal 2 0)) λ _.
    let no = limits_no (sheet_w b) (sheet_r b) (sheet_n b) in
    ask (eqb no 0) (Some (refusal no 0)) λ _.
    ask gap (Some (refusal 21 0)) λ _.
    ask fourth (Some (refusal 4 0)) λ _.
    ask (q6b b) (Some (refusal 6 0)) λ _.
    first_no (sheet_piece_no b) 1 (piece_records b)

unfoldable pub sheet_pieces : List ℕ → List Piece
sheet_pieces b = map (piece_of b) (piece_records b)

-- read

abbrev figures : List ℕ → Figures
figures b = record { width = sheet_w b; resolution = sheet_r b; columns = sheet_n b }

unfoldable pub read_answer : List ℕ → ℕ → Result Figures Refusal
read_answer b words =
    elim (sheet_no b true true) [
      | Some r ↦ Err r
      | None ↦
          ask (leb (length (list_words (sheet_pieces b))) words) (Err (refusal 15 0)) λ _.
          Ok (figures b)
    ]

unfoldable pub read_output : List ℕ → List ℕ → Result Figures Refusal → List ℕ
read_output b out (Ok f) = let ws = list_words (sheet_pieces b) in ws ++ drop (length ws) out
read_output b out (Err r) = out

-- write

-- "Writing numbers the records 1, 2, 3 in list order." The sheet that is written, as bytes.
abbrev pub bytes_of : ℕ → List ℕ
bytes_of n = n % 256 ∷ (n / 256 ∷ [])

-- one record of three numbers
abbrev pub record_bytes : ℕ → ℕ → ℕ → List ℕ
record_bytes x y z = bytes_of x ++ bytes_of y ++ bytes_of z

-- the vertex records of one outline, the first of which has number v
unfoldable pub outline_bytes : ℕ → List ℕ → List ℕ
outline_bytes v [] = []
outline_bytes v (x ∷ []) = []
outline_bytes v (x ∷ (y ∷ [])) = record_bytes x y 0
outline_bytes v (x ∷ (y ∷ (z ∷ ws))) = record_bytes x y (v + 1) ++ outline_bytes (v + 1) (z ∷ ws)

unfoldable pub vertices_bytes : ℕ → List Piece → List ℕ
vertices_bytes v [] = []
vertices_bytes v (p ∷ ps) = outline_bytes v p.outline ++ vertices_bytes (v + length p.outline / 2) ps

-- the piece records, the first of which has number r and first vertex v
unfoldable pub pieces_bytes : ℕ → ℕ → List Piece → List ℕ
pieces_bytes r v [] = []
pieces_bytes r v (p ∷ []) = record_bytes v p.mask 0
pieces_bytes r v (p ∷ (p' ∷ ps)) =
    record_bytes v p.mask (r + 1) ++ pieces_bytes (r + 1) (v + length p.outline / 2) (p' ∷ ps)

unfoldable pub vertices_in : List Piece → ℕ
vertices_in [] = 0
vertices_in (p ∷ ps) = length p.outline / 2 + vertices_in ps

abbrev pub size_of : List Piece → ℕ
size_of ps = 16 + 6 * (vertices_in ps + length ps)

abbrev pub sheet_bytes : ℕ → ℕ → ℕ → List Piece → List ℕ
sheet_bytes W R N ps =
    mark ++ bytes_of W ++ bytes_of R ++ bytes_of N ++
    bytes_of (min 1 (length ps)) ++ bytes_of (vertices_in ps) ++ bytes_of (length ps) ++
    vertices_bytes 1 ps ++ pieces_bytes 1 1 ps

-- what is left of a list's words from each piece on, for `n` pieces
unfoldable pub list_tails : ℕ → List ℕ → List (List ℕ)
list_tails zero ws = []
list_tails (suc n) ws = ws ∷ list_tails n (after_piece ws)

-- "is the list's vertex count 3 to 64 and the piece's words complete"
unfoldable pub q7_listb : List ℕ → Bool
q7_listb ws =
    (leb least_vertices (get_or ws 0 0) && leb (get_or ws 0 0) most_vertices) && leb (2 + 2 * get_or ws 0 0) (length ws)

-- the first of 7 to 11 that gets "no" for the piece with which these words begin, else 0
unfoldable pub list_piece_no : ℕ → List ℕ → ℕ
list_piece_no R ws =
    ask (q7_listb ws) 7 λ _.
    let p = list_piece ws in
    outline_no p.outline (q9b p.mask) p.mask R

unfoldable pub list_pieces : List ℕ → List Piece
list_pieces ws = map list_piece (list_tails (get_or ws 0 0) (drop 1 ws))

-- "has the list a count word of at most 200"
unfoldable pub q6_listb : List ℕ → Bool
q6_listb ws = leb 1 (length ws) && leb (get_or ws 0 0) most_pieces

unfoldable pub list_no : ℕ → ℕ → ℕ → List ℕ → Option Refusal
list_no W R N ws =
    let no = limits_no W R N in
    ask (eqb no 0) (Some (refusal no 0)) λ _.
    ask (q6_listb ws) (Some (refusal 6 0)) λ _.
    first_no (list_piece_no R) 1 (list_tails (get_or ws 0 0) (drop 1 ws))

unfoldable pub write_answer : ℕ → ℕ → ℕ → List ℕ → ℕ → Result ℕ Refusal
write_answer W R N ws bytes =
    elim (list_no W R N ws) [
      | Some r ↦ Err r
      | None ↦
          let size = size_of (list_pieces ws) in
          ask (leb size most_bytes) (Err (refusal 2 0)) λ _.
          ask (leb size bytes) (Err (refusal 15 0)) λ _.
          Ok size
    ]

unfoldable pub write_output : ℕ → ℕ → ℕ → List ℕ → List ℕ → Result ℕ Refusal → List ℕ
write_output W R N ws out (Ok n) = sheet_bytes W R N (list_pieces ws) ++ drop n out
write_output W R N ws out (Err r) = out

-- The contracts of the calls.

pub record ReadStep (b out : List ℕ) (a : Result Figures Refusal) (out' : List ℕ) : Type 0 where
  pub answer : a ≡ read_answer b (length out)
  pub output : out' ≡ read_output b out a

pub record WriteStep (W R N : ℕ) (ws out : List ℕ) (a : Result ℕ Refusal) (out' : List ℕ) : Type 0 where
  pub answer : a ≡ write_answer W R N ws (length out)
  pub output : out' ≡ write_output W R N ws out a
