-- Questions 7 to 11 of the pieces of a list: what is left decides the whole, and its vertices are counted on the way.
-- Assumes nothing.
use mathlib.Core.Path.{◌≡◌, refl, sym, ap, ◌∙◌}
use mathlib.Core.Bool.{Bool, true, false, ◌&&◌}
use mathlib.Core.Logic.{◌⊎◌, inl, inr}
use mathlib.Core.List.{List, [], ◌∷◌}
use Prim.Native.Nat.{ℕ, suc, ◌+◌, ◌-◌, ◌*◌, ◌≤◌, ◌<◌}
use native.Mathlib.Omega.{arith}
use lib.Dec.{leb}
use lib.ListN.{length, get_or, take, drop, length-drop}
use lib.Seq.{drop-drop, get_or-drop}
use borrow.Author.Tests.{le-leb, lt-leb}
use Rattle.std.specs.Prelude.{Result, Ok, Err}
use Rattle.defs.specs.Computing.Calls.{q9b, refusal}
use Rattle.defs.specs.Computing.Sheets.{vertices_in, list_tails, list_pieces, list_piece_no, q6_listb, q7_listb, first_no}
use Rattle.laws.proofs.Tests.{asked}
use Rattle.laws.proofs.Questions.{question_6_list, question_7_list}
use Rattle.asked.specs.Answers.{FirstNo, FirstOf}
use Rattle.records.proofs.Refusals.{no_end, no_on, no_here}
use Rattle.sheets.proofs.Asking.{not_zero}
use Rattle.lists.specs.Asked.{PieceWhole, PieceNo, PieceAsked, NoneRefused, FirstRefused, first_refusal}
use Rattle.recordbytes.proofs.Tails.{pieces_from, count_is, tail_is, vertices_sum}

-- 7 of the piece at place a

module _ (list : List ℕ) (a : ℕ) where
  words_left : length (drop a list) ≡ length list - a
  words_left = length-drop a list

  pub seven_none : a ≡ length list → false ≡ q7_listb (drop a list)
  unfolding q7_listb
  seven_none l = go (drop a list) (omega (arith, words_left))
    where
      go : (ws : List ℕ) → length ws ≡ 0 → false ≡ ((leb 3 (get_or ws 0 0) && leb (get_or ws 0 0) 64) && leb (2 + 2 * get_or ws 0 0) (length ws))
      go [] e = refl
      go (w ∷ ws) e = absurd (omega arith)

  module _ {m : ℕ} (em : m ≡ get_or list a 0) where
    count : get_or (drop a list) 0 0 ≡ m
    count = count_is list a m em

    pub seven_out : (m < 3) ⊎ ((3 ≤ m) × (64 < m)) → false ≡ q7_listb (drop a list)
    unfolding q7_listb
    seven_out (inl h) = rw (count, lt-leb 3 m h)
    seven_out (inr q) = rw (count, le-leb 3 m q.0, lt-leb m 64 q.1)

    pub seven_is : 3 ≤ m → m ≤ 64 → leb (2 + 2 * m) (length list - a) ≡ q7_listb (drop a list)
    unfolding q7_listb
    seven_is l h = rw (count, words_left, le-leb 3 m l, le-leb m 64 h)

    -- the outline lent decides 7 to 11 of a piece that passes 7
    pub no_of : {t : Bool} {mask n : ℕ} → PieceWhole list a → mask ≡ get_or list (a + 1) 0 → t ≡ q9b mask →
        FirstNo (take (a + 2 + 2 * m - (a + 2)) (drop (a + 2) list)) t mask n → PieceNo (drop a list) n
    unfolding list_piece_no
    no_of w ek et f =
        let i : a + 2 + 2 * m - (a + 2) ≡ 2 * m = omega arith in
        record { every = λ R h. f.every R h ∙ rw (w.seven, et, ek, i, count, get_or-drop a list 1 0, drop-drop 2 a list) }

    pub asked_of : {t : Bool} {mask : ℕ} → PieceWhole list a → mask ≡ get_or list (a + 1) 0 → t ≡ q9b mask → (r : Result Unit ℕ) →
        FirstOf (take (a + 2 + 2 * m - (a + 2)) (drop (a + 2) list)) t mask r → PieceAsked (drop a list) r
    asked_of w ek et (Ok u) f = no_of w ek et f
    asked_of w ek et (Err n) f = (no_of w ek et f.0, f.1)

    -- the rest of the list after the piece
    tails_step : (left : ℕ) → 0 < left →
        list_tails left (drop a list) ≡ drop a list ∷ list_tails (left - 1) (drop (a + (2 + 2 * m)) list)
    unfolding list_tails
    tails_step left p =
        let e : left ≡ suc (left - 1) = omega arith in
        ap (λ (n : ℕ). list_tails n (drop a list)) e ∙ ap (λ (ws : List ℕ). drop a list ∷ list_tails (left - 1) ws) (tail_is list a m em)

  -- what 7 gives
  pub piece_whole : q7_listb (drop a list) ≡ true → PieceWhole list a
  piece_whole e =
      let q = (question_7_list (drop a list)).0 e in
      record {
        seven = e;
        few = omega (arith, q.count.at_most, count refl);
        whole = omega (arith, q.count.at_least, q.complete, count refl, words_left);
      }

  pub no_7 : q7_listb (drop a list) ≡ false → PieceNo (drop a list) 7
  unfolding list_piece_no
  no_7 e = record { every = λ R h. rw e }

  passed_7 : {n : ℕ} → PieceNo (drop a list) n → n ≡ 0 → q7_listb (drop a list) ≡ true
  unfolding list_piece_no
  passed_7 f z = (asked _ _ (sym (f.every 1 (omega arith)) ∙ z) not_zero).0

-- `left` pieces are not asked yet, from word a; the next is piece k, and those before have v vertices
pub record Asking (list : List ℕ) (a left k v : ℕ) : Type 0 where
  pub in_list : a ≤ length list
  pub place : k + left ≤ 201
  pub few : v + 64 * left ≤ 12800
  pub sum : v + vertices_in (pieces_from list a left) ≡ vertices_in (list_pieces list)
  pub same : (R : ℕ) → 1 ≤ R → first_refusal R list ≡ first_no (list_piece_no R) k (list_tails left (drop a list))

pub ask_start : (list : List ℕ) {left : ℕ} → q6_listb list ≡ true → left ≡ get_or list 0 0 → Asking list 1 left 1 0
unfolding list_pieces
ask_start list e l =
    let q = (question_6_list list).0 e in
    rw l (record {
      in_list = q.count_word;
      place = omega (arith, q.most);
      few = omega (arith, q.most);
      sum = omega arith;
      same = λ R h. refl;
    })

module _ {list : List ℕ} {a left k v : ℕ} (s : Asking list a left k v) (p : 0 < left) where
  pub whole_here : PieceNo (drop a list) 0 → PieceWhole list a
  whole_here f = piece_whole list a (passed_7 list a f refl)

  pub ask_next : {m : ℕ} → PieceNo (drop a list) 0 → m ≡ get_or list a 0 →
      Asking list (a + (2 + 2 * m)) (left - 1) (k + 1) (v + m)
  ask_next {m} f em =
      let w = whole_here f in
      let whole : a + (2 + 2 * m) ≤ length list = omega (arith, w.whole, em) in
      record {
        in_list = whole;
        place = omega (arith, s.place);
        few = omega (arith, s.few, w.few, em);
        sum = omega (arith, s.sum, vertices_sum list a m em left p whole);
        same = λ R h.
            s.same R h ∙ ap (first_no (list_piece_no R) k) (tails_step list a em left p) ∙
            no_on (list_piece_no R) k (drop a list) (list_tails (left - 1) (drop (a + (2 + 2 * m)) list)) (sym (f.every R h));
      }

  pub ask_stop : {n : ℕ} → PieceNo (drop a list) n × (0 < n) → FirstRefused list (refusal n k)
  ask_stop {n} (f, z) =
      record {
        every = λ R h.
            s.same R h ∙ ap (first_no (list_piece_no R) k) (tails_step list a refl left p) ∙
            no_here (list_piece_no R) k (drop a list) (list_tails (left - 1) (drop (a + (2 + 2 * get_or list a 0)) list))
            (λ e. omega (arith, z, f.every R h, e)) ∙
            rw (sym (f.every R h));
      }

pub ask_at : {list : List ℕ} {a left left' k v : ℕ} → left ≡ left' → Asking list a left k v → Asking list a left' k v
ask_at e s = rw e at s

pub ask_end : {list : List ℕ} {a left k v : ℕ} → Asking list a left k v → left ≡ 0 → NoneRefused list v
unfolding list_tails vertices_in
ask_end {list} {a} {left} {k} {v} s e =
    let none_left : vertices_in (pieces_from list a left) ≡ 0 = rw e in
    record {
      every = λ R h. s.same R h ∙ ap (λ (n : ℕ). first_no (list_piece_no R) k (list_tails n (drop a list))) e ∙ no_end (list_piece_no R) k;
      vertices = omega (arith, s.sum, none_left);
      few = omega (arith, s.few);
    }
