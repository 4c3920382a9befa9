-- The pieces of a list, one after another, and their records.
-- Assumes nothing.
use mathlib.Core.Path.{◌≡◌, refl, sym, ap, ◌∙◌}
use mathlib.Core.List.{List, [], ◌∷◌, ◌++◌, map}
use Prim.Native.Nat.{ℕ, zero, suc, ◌+◌, ◌-◌, ◌*◌, ◌/◌, ◌≤◌, ◌<◌}
use native.Mathlib.Omega.{arith}
use lib.ListN.{length, get_or, take, drop, length-drop}
use lib.Seq.{sets, length-sets, drop-drop, get_or-drop, length-take-le}
use borrow.Author.Tests.{lt-leb}
use Rattle.defs.specs.Meaning.Sheet.{Piece, list_piece}
use Rattle.defs.specs.Computing.Sheets.{record_bytes, outline_bytes, vertices_bytes, pieces_bytes, vertices_in, list_tails}
use Rattle.laws.proofs.Stores.{sets_append}
use Rattle.sheets.proofs.PiecesBack.{outline_bytes_long}
use Rattle.onerecord.specs.Link.{link_of}
use Rattle.recordbytes.specs.Fits.{OutlineFits, Complete, a_piece, ListFits}

-- the pieces of the list from word a on
abbrev pub pieces_from : List ℕ → ℕ → ℕ → List Piece
pieces_from list a n = map list_piece (list_tails n (drop a list))

abbrev pub piece_at : List ℕ → ℕ → ℕ → Piece
piece_at list a m = record { mask = get_or list (a + 1) 0; outline = take (2 * m) (drop (a + 2) list) }

recast : {m n : ℕ} {ws : List ℕ} → m ≡ n → Complete m ws → Complete n ws
recast e c = rw e at c

module _ (list : List ℕ) (a m : ℕ) (em : m ≡ get_or list a 0) where
  pub count_is : get_or (drop a list) 0 0 ≡ m
  count_is = get_or-drop a list 0 0 ∙ (let z : a + 0 ≡ a = omega arith in rw z (sym em))

  pub tail_is : drop (2 + 2 * get_or (drop a list) 0 0) (drop a list) ≡ drop (a + (2 + 2 * m)) list
  tail_is = rw count_is (drop-drop (2 + 2 * m) a list)

  pub piece_is : list_piece (drop a list) ≡ piece_at list a m
  piece_is = rw (count_is, get_or-drop a list 1 0, drop-drop 2 a list)

  pub opened : (l : ℕ) → pieces_from list a (suc l) ≡ piece_at list a m ∷ pieces_from list (a + (2 + 2 * m)) l
  unfolding list_tails
  opened l = rw (piece_is, tail_is)

  whole : {l : ℕ} → Complete (suc l) (drop a list) → a + (2 + 2 * m) ≤ length list
  whole (a_piece h c) = omega (arith, h, count_is, length-drop a list)

  onward : {l : ℕ} → Complete (suc l) (drop a list) → Complete l (drop (a + (2 + 2 * m)) list)
  onward (a_piece h c) = rw tail_is at c

  pub outline_count : a + (2 + 2 * m) ≤ length list → length (piece_at list a m).outline / 2 ≡ m
  outline_count h = omega (arith, length-take-le (2 * m) (drop (a + 2) list) (omega (arith, length-drop (a + 2) list)))

  -- `left` pieces begin at word a, the first of m vertices
  module _ (left : ℕ) (p : 0 < left) where
    one_more : left ≡ suc (left - 1)
    one_more = omega arith

    pieces_are : pieces_from list a left ≡ piece_at list a m ∷ pieces_from list (a + (2 + 2 * m)) (left - 1)
    pieces_are = ap (pieces_from list a) one_more ∙ opened (left - 1)

    pub vertices_sum : a + (2 + 2 * m) ≤ length list →
        vertices_in (pieces_from list a left) ≡ m + vertices_in (pieces_from list (a + (2 + 2 * m)) (left - 1))
    unfolding vertices_in
    vertices_sum h =
        ap vertices_in pieces_are ∙
        ap (λ (n : ℕ). n + vertices_in (pieces_from list (a + (2 + 2 * m)) (left - 1))) (outline_count h)

    words_whole : Complete left (drop a list) → a + (2 + 2 * m) ≤ length list
    words_whole c = whole (recast one_more c)

    words_after : Complete left (drop a list) → Complete (left - 1) (drop (a + (2 + 2 * m)) list)
    words_after c = onward (recast one_more c)

-- `left` pieces are left, from word a; the next vertex record is v, at byte t; T is the whole
pub record Vertexing (list out₀ out T : List ℕ) (a left v t : ℕ) : Type 0 where
  pub long : length out ≡ length out₀
  pub complete : Complete left (drop a list)
  pub in_out : t + 6 * vertices_in (pieces_from list a left) ≤ length out₀
  pub small : v + vertices_in (pieces_from list a left) < 65536
  pub rest : sets out t (vertices_bytes v (pieces_from list a left)) ≡ T

pub vertices_start : {list out : List ℕ} {count : ℕ} → ListFits list count out →
    Vertexing list out out (sets out 16 (vertices_bytes 1 (pieces_from list 1 count))) 1 count 1 16
vertices_start f =
    record { long = refl; complete = f.complete; in_out = f.in_out; small = omega (arith, f.vertices_few); rest = refl }

module _ {list out₀ out T : List ℕ} {a left v t : ℕ} (s : Vertexing list out₀ out T a left v t) (p : 0 < left) where
  pub vertices_whole : (m : ℕ) → m ≡ get_or list a 0 → a + (2 + 2 * m) ≤ length list
  vertices_whole m em = words_whole list a m em left p s.complete

  vertices_are : (m : ℕ) → m ≡ get_or list a 0 →
      vertices_in (pieces_from list a left) ≡ m + vertices_in (pieces_from list (a + (2 + 2 * m)) (left - 1))
  vertices_are m em = vertices_sum list a m em left p (vertices_whole m em)

  pub vertices_fit : (m : ℕ) → m ≡ get_or list a 0 → OutlineFits list (a + 2) m v out t
  vertices_fit m em =
      record {
        in_list = omega (arith, vertices_whole m em);
        in_out = omega (arith, s.in_out, s.long, vertices_are m em);
        small = omega (arith, s.small, vertices_are m em);
      }

  pub vertices_next :
      (m : ℕ) → m ≡ get_or list a 0 → {out' : List ℕ} → out' ≡ sets out t (outline_bytes v (take (2 * m) (drop (a + 2) list))) →
      Vertexing list out₀ out' T (a + (2 + 2 * m)) (left - 1) (v + m) (t + 6 * m)
  unfolding vertices_bytes
  vertices_next m em {out'} eo =
      let o : List ℕ = take (2 * m) (drop (a + 2) list) in
      let ps : List Piece = pieces_from list (a + (2 + 2 * m)) (left - 1) in
      let c : length o / 2 ≡ m = outline_count list a m em (vertices_whole m em) in
      let w : vertices_bytes v (pieces_from list a left) ≡ outline_bytes v o ++ vertices_bytes (v + m) ps =
      ap (vertices_bytes v) (pieces_are list a m em left p) ∙ ap (λ (n : ℕ). outline_bytes v o ++ vertices_bytes (v + n) ps) c in
      let i : length (outline_bytes v o) ≡ 6 * m = outline_bytes_long v o ∙ ap (λ (n : ℕ). 6 * n) c in
      record {
        long = ap length eo ∙ length-sets out t (outline_bytes v o) ∙ s.long;
        complete = words_after list a m em left p s.complete;
        in_out = omega (arith, s.in_out, vertices_are m em);
        small = omega (arith, s.small, vertices_are m em);
        rest =
            rw (eo, ← i)
            (sym (sets_append out (outline_bytes v o) (vertices_bytes (v + m) ps) t) ∙ ap (sets out t) (sym w) ∙ s.rest);
      }

pub vertices_end : {list out₀ out T : List ℕ} {a left v t : ℕ} → Vertexing list out₀ out T a left v t → left ≡ 0 → out ≡ T
unfolding vertices_bytes list_tails
vertices_end s e = rw e at s.rest

pub vertices_at : {list out₀ out T : List ℕ} {a left left' v t : ℕ} → left ≡ left' → Vertexing list out₀ out T a left v t →
    Vertexing list out₀ out T a left' v t
vertices_at e s = rw e at s

-- the piece records

pieces_step : (r v : ℕ) (p : Piece) (ps : List Piece) →
    pieces_bytes r v (p ∷ ps) ≡
    record_bytes v p.mask (link_of r (suc (length ps))) ++ pieces_bytes (r + 1) (v + length p.outline / 2) ps
unfolding pieces_bytes link_of
pieces_step r v p [] = refl
pieces_step r v p (p' ∷ ps) = rw (lt-leb (suc (suc (length ps))) 1 (omega arith))

pub tails_long : (n : ℕ) (ws : List ℕ) → length (map list_piece (list_tails n ws)) ≡ n
unfolding list_tails
tails_long zero ws = refl
tails_long (suc n) ws = ap suc (tails_long n (drop (2 + 2 * get_or ws 0 0) ws))

pub record Recording (list out₀ out T : List ℕ) (a left r v t : ℕ) : Type 0 where
  pub long : length out ≡ length out₀
  pub complete : Complete left (drop a list)
  pub in_out : t + 6 * left ≤ length out₀
  pub numbers : r + left < 65537
  pub small : v + vertices_in (pieces_from list a left) < 65536
  pub rest : sets out t (pieces_bytes r v (pieces_from list a left)) ≡ T

pub pieces_start : {list out : List ℕ} {count to : ℕ} → ListFits list count out → to + 6 * count ≤ length out →
    Recording list out out (sets out to (pieces_bytes 1 1 (pieces_from list 1 count))) 1 count 1 1 to
pieces_start f l =
    record {
      long = refl;
      complete = f.complete;
      in_out = l;
      numbers = omega (arith, f.pieces_few);
      small = omega (arith, f.vertices_few);
      rest = refl;
    }

module _ {list out₀ out T : List ℕ} {a left r v t : ℕ} (s : Recording list out₀ out T a left r v t) (p : 0 < left) where
  pub pieces_whole : (m : ℕ) → m ≡ get_or list a 0 → a + (2 + 2 * m) ≤ length list
  pieces_whole m em = words_whole list a m em left p s.complete

  pub pieces_sum : (m : ℕ) → m ≡ get_or list a 0 →
      vertices_in (pieces_from list a left) ≡ m + vertices_in (pieces_from list (a + (2 + 2 * m)) (left - 1))
  pieces_sum m em = vertices_sum list a m em left p (pieces_whole m em)

  pub pieces_next : (m : ℕ) → m ≡ get_or list a 0 → {out' : List ℕ} {n : ℕ} → n ≡ link_of r left →
      out' ≡ sets out t (record_bytes v (get_or list (a + 1) 0) n) →
      Recording list out₀ out' T (a + (2 + 2 * m)) (left - 1) (r + 1) (v + m) (t + 6)
  pieces_next m em {out'} {n} en eo =
      let ps : List Piece = pieces_from list (a + (2 + 2 * m)) (left - 1) in
      let x : ℕ = get_or list (a + 1) 0 in
      let c : length (piece_at list a m).outline / 2 ≡ m = outline_count list a m em (pieces_whole m em) in
      let k : suc (length ps) ≡ left = ap suc (tails_long (left - 1) (drop (a + (2 + 2 * m)) list)) ∙ omega arith in
      let f : link_of r (suc (length ps)) ≡ n = ap (link_of r) k ∙ sym en in
      let w : pieces_bytes r v (pieces_from list a left) ≡ record_bytes v x n ++ pieces_bytes (r + 1) (v + m) ps =
      ap (pieces_bytes r v) (pieces_are list a m em left p) ∙ pieces_step r v (piece_at list a m) ps ∙
      ap (λ (i : ℕ). record_bytes v x i ++ pieces_bytes (r + 1) (v + length (piece_at list a m).outline / 2) ps) f ∙
      ap (λ (i : ℕ). record_bytes v x n ++ pieces_bytes (r + 1) (v + i) ps) c in
      record {
        long = ap length eo ∙ length-sets out t (record_bytes v x n) ∙ s.long;
        complete = words_after list a m em left p s.complete;
        in_out = omega (arith, s.in_out);
        numbers = omega (arith, s.numbers);
        small = omega (arith, s.small, pieces_sum m em);
        rest =
            rw eo
            (sym (sets_append out (record_bytes v x n) (pieces_bytes (r + 1) (v + m) ps) t) ∙ ap (sets out t) (sym w) ∙ s.rest);
      }

pub pieces_end : {list out₀ out T : List ℕ} {a left r v t : ℕ} → Recording list out₀ out T a left r v t → left ≡ 0 → out ≡ T
unfolding pieces_bytes list_tails
pieces_end s e = rw e at s.rest

pub pieces_at : {list out₀ out T : List ℕ} {a left left' r r' v t t' : ℕ} → left ≡ left' → r ≡ r' → t ≡ t' →
    Recording list out₀ out T a left r v t → Recording list out₀ out T a left' r' v t'
pieces_at e f g s = rw (e, f, g) at s
