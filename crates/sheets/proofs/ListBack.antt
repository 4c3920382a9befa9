-- A cut list that write accepts: its words are those of its pieces, and each piece passes; and the words of pieces that pass are
-- accepted, and taken apart as these pieces.
-- Assumes nothing.
use mathlib.Core.Path.{◌≡◌, refl, sym, ap, ◌∙◌}
use mathlib.Core.Bool.{true}
use mathlib.Core.List.{List, [], ◌∷◌, ◌++◌, append_assoc, map}
use Prim.Native.Nat.{ℕ, zero, suc, ◌+◌, ◌*◌, ◌/◌, ◌≤◌}
use native.Mathlib.Omega.{arith}
use lib.Dec.{eqb}
use borrow.Author.Tests.{eqb-true}
use lib.ListN.{length, get_or, take, drop, take-append-drop, length-append}
use lib.Seq.{length-take-le, take-append_seam, drop-append_seam}
use Rattle.std.specs.Prelude.{None}
use Rattle.defs.specs.Meaning.Limits.{most_pieces}
use Rattle.defs.specs.Meaning.Strip.{Limits}
use Rattle.defs.specs.Meaning.Sheet.{Piece, piece_words, pieces_words, list_words, ListHolds, list_piece}
use Rattle.defs.specs.Meaning.Question.{Question6List, Question7List}
use Rattle.defs.specs.Computing.Words.{limits_no}
use Rattle.defs.specs.Computing.Calls.{q9b, outline_no}
use Rattle.defs.specs.Computing.Sheets.{q6_listb, q7_listb, first_no, list_tails, list_piece_no, list_pieces, list_no}
use Rattle.laws.proofs.Tests.{asked}
use Rattle.laws.proofs.Questions.{limits_none, question_6_list, question_7_list}
use Rattle.sheets.proofs.PiecesBack.{Each, nothing_left, and_more, Shaped}
use Rattle.sheets.proofs.Asking.{some_none, not_zero, first_none, PiecePasses, shaped}

-- the piece with which words begin
pub record Complete (R : ℕ) (ws : List ℕ) : Type 0 where
  pub whole : Question7List ws
  pub passes : PiecePasses R (list_piece ws)

pub complete : (R : ℕ) (ws : List ℕ) → list_piece_no R ws ≡ 0 → Complete R ws
unfolding list_piece_no
complete R ws e =
    let h = asked (q7_listb ws) _ e not_zero in
    record { whole = (question_7_list ws).0 h.0; passes = record { no = h.1 } }

pub first_words : (ws : List ℕ) → 2 + 2 * get_or ws 0 0 ≤ length ws → ws ≡ piece_words (list_piece ws) ++ drop (2 + 2 * get_or ws 0 0) ws
first_words [] h = absurd (omega arith)
first_words (a ∷ []) h = absurd (omega arith)
first_words (a ∷ (b ∷ rs)) h =
    let i : 2 + 2 * a ≡ suc (suc (2 * a)) = omega arith in
    let j : length (take (2 * a) rs) ≡ 2 * a = length-take-le (2 * a) rs (omega arith) in
    let k : 2 * a / 2 ≡ a = omega arith in
    rw (i, j, k) (ap (λ (x : List ℕ). a ∷ (b ∷ x)) (sym (take-append-drop (2 * a) rs)))

pub record PiecesIn (R n : ℕ) (ws : List ℕ) : Type 0 where
  pub rest : List ℕ
  pub words : ws ≡ pieces_words (map list_piece (list_tails n ws)) ++ rest
  pub passes : Each (PiecePasses R) (map list_piece (list_tails n ws))
  pub long : length (map list_piece (list_tails n ws)) ≡ n

pieces_in : (R k n : ℕ) (ws : List ℕ) → first_no (list_piece_no R) k (list_tails n ws) ≡ None → PiecesIn R n ws
unfolding list_tails
pieces_in R k zero ws e = record { rest = ws; words = refl; passes = nothing_left; long = refl }
pieces_in R k (suc n) ws e =
    let h = (first_none (list_piece_no R) k ws (list_tails n tail)).0 e in
    go (complete R ws h.0) (pieces_in R (k + 1) n tail h.1)
  where
    tail : List ℕ
    tail = drop (2 + 2 * get_or ws 0 0) ws

    go : Complete R ws → PiecesIn R n tail → PiecesIn R (suc n) ws
    go c i =
        record {
          rest = i.rest;
          words =
              first_words ws c.whole.complete ∙ ap (λ (x : List ℕ). piece_words (list_piece ws) ++ x) i.words ∙
              sym (append_assoc (piece_words (list_piece ws)) (pieces_words (map list_piece (list_tails n tail))) i.rest);
          passes = and_more c.passes i.passes;
          long = ap suc i.long;
        }

-- what write accepts
pub record Accepted (W R N : ℕ) (ws : List ℕ) : Type 0 where
  pub limits : Limits W R N
  pub count : Question6List ws
  pub pieces : PiecesIn R (get_or ws 0 0) (drop 1 ws)

pub accepted : (W R N : ℕ) (ws : List ℕ) → list_no W R N ws ≡ None → Accepted W R N ws
unfolding list_no
accepted W R N ws e =
    let e3 = asked (eqb (limits_no W R N) 0) _ e some_none in
    let e6 = asked (q6_listb ws) _ e3.1 some_none in
    record {
      limits = (limits_none W R N).0 (eqb-true (limits_no W R N) 0 e3.0);
      count = (question_6_list ws).0 e6.0;
      pieces = pieces_in R 1 (get_or ws 0 0) (drop 1 ws) e6.1;
    }

whole_list : (ws ts rest : List ℕ) (n : ℕ) → 1 ≤ length ws → n ≡ get_or ws 0 0 → drop 1 ws ≡ ts ++ rest → ws ≡ (n ∷ ts) ++ rest
whole_list [] ts rest n l e f = absurd (omega arith)
whole_list (w ∷ ws) ts rest n l e f = rw (e, f)

module _ {W R N : ℕ} {ws : List ℕ} (a : Accepted W R N ws) where
  pub all_pass : Each (PiecePasses R) (list_pieces ws)
  unfolding list_pieces
  all_pass = a.pieces.passes

  pub few_pieces : length (list_pieces ws) ≤ most_pieces
  unfolding list_pieces
  few_pieces = omega (arith, a.pieces.long, a.count.most)

  pub list_holds : ListHolds ws (list_pieces ws)
  unfolding list_pieces
  list_holds =
      let tails = map list_piece (list_tails (get_or ws 0 0) (drop 1 ws)) in
      record {
        rest = a.pieces.rest;
        words =
            whole_list ws (pieces_words tails) a.pieces.rest (length tails) a.count.count_word a.pieces.long
            a.pieces.words;
      }

-- The other way round: words that begin with a piece.

module _ (p : Piece) (more : List ℕ) (s : Shaped p) where
  abbrev begun : List ℕ
  begun = piece_words p ++ more

  twice : 2 * (length p.outline / 2) ≡ length p.outline
  twice = omega (arith, s.even)

  first_is : list_piece begun ≡ p
  first_is = rw (twice, take-append_seam p.outline more)

  tail_is : drop (2 + 2 * get_or begun 0 0) begun ≡ more
  tail_is =
      let i : 2 + 2 * (length p.outline / 2) ≡ suc (suc (length p.outline)) = omega (arith, twice) in
      rw i (drop-append_seam p.outline more)

  first_whole : q7_listb begun ≡ true
  first_whole =
      (question_7_list begun).1 (record {
        count = record { at_least = omega (arith, s.words.at_least); at_most = omega (arith, s.words.at_most) };
        complete = omega (arith, twice, length-append p.outline more);
      })

  first_passes : {R : ℕ} → PiecePasses R p → list_piece_no R begun ≡ 0
  unfolding list_piece_no
  first_passes {R} c =
      rw first_whole (ap (λ (q : Piece). outline_no q.outline (q9b q.mask) q.mask R) first_is ∙ c.no)

-- words that begin with pieces that pass are taken apart as these
record Listed (R k : ℕ) (ps : List Piece) (ws : List ℕ) : Type 0 where
  none_no : first_no (list_piece_no R) k (list_tails (length ps) ws) ≡ None
  pieces : map list_piece (list_tails (length ps) ws) ≡ ps

listed : (R k : ℕ) {ps : List Piece} (rest : List ℕ) → Each (PiecePasses R) ps → Listed R k ps (pieces_words ps ++ rest)
unfolding list_tails first_no
listed R k rest nothing_left = record { none_no = refl; pieces = refl }
listed R k rest (and_more {p} {ps} c cs) = rw (append_assoc (piece_words p) (pieces_words ps) rest) (go (listed R (k + 1) rest cs))
  where
    more : List ℕ
    more = pieces_words ps ++ rest

    ws : List ℕ
    ws = piece_words p ++ more

    tails : List (List ℕ)
    tails = list_tails (length ps) (drop (2 + 2 * get_or ws 0 0) ws)

    tails_are : tails ≡ list_tails (length ps) more
    tails_are = ap (list_tails (length ps)) (tail_is p more (shaped p c))

    go : Listed R (k + 1) ps more → Listed R k (p ∷ ps) ws
    go i =
        record {
          none_no =
              (first_none (list_piece_no R) k ws tails).1
              (first_passes p more (shaped p c) c, ap (first_no (list_piece_no R) (k + 1)) tails_are ∙ i.none_no);
          pieces =
              ap (λ (q : Piece). q ∷ map list_piece tails) (first_is p more (shaped p c)) ∙
              ap (λ (qs : List Piece). p ∷ qs) (ap (map list_piece) tails_are ∙ i.pieces);
        }

-- the words of a list of pieces that pass
module _
    {W R N : ℕ}
    {ps : List Piece}
    (rest : List ℕ)
    (limits : Limits W R N)
    (few : length ps ≤ most_pieces)
    (passes : Each (PiecePasses R) ps) where
  pub words_accepted : list_no W R N (list_words ps ++ rest) ≡ None
  unfolding list_no
  words_accepted =
      rw (
        (limits_none W R N).1 limits,
        (question_6_list (list_words ps ++ rest)).1 (record { count_word = omega arith; most = few }),
      ) (listed R 1 rest passes).none_no

  pub words_pieces : list_pieces (list_words ps ++ rest) ≡ ps
  unfolding list_pieces
  words_pieces = (listed R 1 rest passes).pieces
