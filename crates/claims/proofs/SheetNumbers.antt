-- Read, write and lay answer the first "no" in document 01's order.
-- Assumes nothing.
use mathlib.Core.Path.{◌≡◌, refl, sym, ap, subst, ◌∙◌}
use mathlib.Core.Bool.{Bool, true, false, cond, ◌&&◌}
use mathlib.Core.List.{List, [], ◌∷◌, map}
use Prim.Native.Nat.{ℕ, zero, suc, ◌+◌, ◌*◌, ◌/◌, ◌≤◌}
use native.Mathlib.Omega.{arith}
use lib.Dec.{leb, eqb}
use lib.ListN.{length, get_or, drop, length-drop}
use lib.Seq.{length-take-le}
use Rattle.std.specs.Prelude.{Option, Some, None, Result, Ok, Err}
use Rattle.defs.specs.declared.Totals.{Totals}
use Rattle.defs.specs.declared.Refusal.{Refusal}
use Rattle.defs.specs.Answer.{Outcome, reading, writing, laying}
use Rattle.defs.specs.Meaning.Limits.{most_pieces, most_vertices, most_bytes}
use Rattle.defs.specs.Meaning.Sheet.{Piece, PieceChain, VertexChain, Pieces, no_more, one_more, sheet_w, sheet_r, sheet_n, sheet_v, vertex_number, piece_number, vertex_words, list_words, list_piece}
use Rattle.defs.specs.Meaning.Question.{Question4, Question6, Question7, Question7Sheet, Question7List, Question9, Question15, Question2Size}
use Rattle.defs.specs.Computing.Test.{ask, ends_by}
use Rattle.defs.specs.Computing.Words.{gapb, lengthb}
use Rattle.defs.specs.Computing.Calls.{refusal, q7b, q9b}
use Rattle.defs.specs.Computing.Sheets.{q1b, q2b, q6b, q6_listb, q7_listb, piece_records, piece_of, sheet_piece_no, first_no, sheet_no, sheet_pieces, read_answer, vertices_in, size_of, list_tails, list_piece_no, list_pieces, list_no, write_answer}
use Rattle.defs.specs.Computing.Lay.{lay_answer, lay_entries, placed_in, used_in}
use Rattle.laws.proofs.Tests.{Decides, decides_by, and_decides, leb_decides, and_right}
use Rattle.laws.proofs.Questions.{question_1, question_2, question_2_size, question_21, question_4, question_6_list, question_7, question_7_list, question_9, question_15}
use Rattle.laws.proofs.SheetChains.{chain_is, question_6, question_7_sheet}
use Rattle.sheets.proofs.Passing.{piece_is, pieces_are}
use Rattle.sheets.proofs.Answers.{said, figures_of}
use Rattle.claims.specs.Numbers.{Questions, asks, grants, Answers, chain_questions, list_questions, read_questions, write_questions, lay_questions_to}
use Rattle.claims.proofs.Asked.{refused, is_granted, step, limits_asked, outline_asked}

-- an answer that is the first "no" of several, or else the rest
abbrev first_said : {A : Type 0} → (A → Outcome) → (Refusal → A) → A → Option Refusal → Outcome
first_said f refuse rest o = f (said refuse rest o)

as_asked : {A : Type 0} (b : Bool) (a rest : A) → cond b rest a ≡ (ask b a λ _. rest)
as_asked true a rest = refl
as_asked false a rest = refl

-- the pieces of a sheet

-- 7 of piece record r finds the outline as it is read
outline_is : {b : List ℕ} {r : ℕ} {vs : List ℕ} → VertexChain b r vs → vertex_words b vs ≡ (piece_of b r).outline
outline_is c = sym (ap (λ (p : Piece). p.outline) (piece_is c))

outline_shaped : (b : List ℕ) (r : ℕ) → Question7Sheet b r → Question7 (piece_of b r).outline
outline_shaped b r q =
    (question_7 (piece_of b r).outline).0
    (and_right (ends_by (λ v. vertex_number b v 2) (sheet_v b) most_vertices (piece_number b r 0)) _ ((question_7_sheet b r).1 q))

with_piece : (b : List ℕ) (r : ℕ) (rs : List ℕ) → Question7Sheet b r → Pieces b rs (map (piece_of b) rs) →
    Pieces b (r ∷ rs) (map (piece_of b) (r ∷ rs))
unfolding Question7Sheet
with_piece b r rs q ps = rw (piece_is q.1) (one_more {vs = q.0} q.1 ps)

module _ (b : List ℕ) (Rpos : 1 ≤ sheet_r b) (f : Option Refusal → Outcome) (is : (n k : ℕ) → f (Some (refusal n k)) ≡ refused n k) where
  abbrev ends : ℕ → Bool
  ends r = ends_by (λ v. vertex_number b v 2) (sheet_v b) most_vertices (piece_number b r 0)

  chain_asked : (k : ℕ) (rs : List ℕ) (qs : Questions) → (Pieces b rs (map (piece_of b) rs) → Answers qs (f None)) →
      Answers (chain_questions b k rs qs) (f (first_no (sheet_piece_no b) k rs))
  unfolding chain_questions first_no sheet_piece_no Question7Sheet piece_of
  chain_asked k [] qs h = h no_more
  chain_asked k (r ∷ rs) qs h =
      subst (λ (o : Option Refusal). Answers (chain_questions b k (r ∷ rs) qs) (f o))
      (sym (as_asked (eqb (sheet_piece_no b r) 0) (Some (refusal (sheet_piece_no b r) k)) (first_no (sheet_piece_no b) (k + 1) rs)))
      (outline_asked f Some is (ends r) (q9b (piece_of b r).mask) (piece_of b r).outline (piece_of b r).mask (sheet_r b) k Rpos
      (Question7Sheet b r) (Question9 (piece_of b r).mask) (λ q. vertex_words b q.0)
      (question_7_sheet b r) (outline_shaped b r) (λ q. outline_is q.1) (question_9 (piece_of b r).mask)
      (first_no (sheet_piece_no b) (k + 1) rs) (chain_questions b (k + 1) rs qs)
      (λ q7 _ _. chain_asked (k + 1) rs qs (λ ps. h (with_piece b r rs q7 ps))))

  -- 6, and 7 to 11 of the pieces
  pieces_asked : (qs : (rs : List ℕ) → PieceChain b rs → Questions) →
      ((rs : List ℕ) (c : PieceChain b rs) → piece_records b ≡ rs → Pieces b rs (sheet_pieces b) → Answers (qs rs c) (f None)) →
      Answers
      (asks 6 0 (Question6 b) λ q6.
      chain_questions b 1 (unfold Question6 in q6.0) (qs (unfold Question6 in q6.0) (unfold Question6 in q6.1)))
      (f (ask (q6b b) (Some (refusal 6 0)) λ _. first_no (sheet_piece_no b) 1 (piece_records b)))
  unfolding Question6 piece_records sheet_pieces
  pieces_asked qs h =
      step f (q6b b) _ (Some (refusal 6 0)) _ 6 0 _ (is 6 0) (question_6 b)
      (λ q6.
      let e : piece_records b ≡ q6.0 = chain_is most_pieces q6.1.chain q6.1.most in
      subst (λ (rs : List ℕ). Answers (chain_questions b 1 q6.0 (qs q6.0 q6.1)) (f (first_no (sheet_piece_no b) 1 rs))) (sym e)
      (chain_asked 1 q6.0 (qs q6.0 q6.1)
      (λ ps. h q6.0 q6.1 e (subst (λ (rs : List ℕ). Pieces b q6.0 (map (piece_of b) rs)) (sym e) ps))))

-- read

read_15 : (b : List ℕ) (words : ℕ) (rs : List ℕ) → Pieces b rs (sheet_pieces b) →
    Decides (leb (length (list_words (sheet_pieces b))) words)
    ((ps : List Piece) → Pieces b rs ps → Question15 (length (list_words ps)) words)
read_15 b words rs all =
    decides_by
    (λ l ps q. subst (λ (qs : List Piece). length (list_words qs) ≤ words) (sym (pieces_are all) ∙ pieces_are q) l)
    (λ h. h (sheet_pieces b) all)
    (leb_decides (length (list_words (sheet_pieces b))) words)

pub read_answers : (b : List ℕ) (words : ℕ) → Answers (read_questions b words) (reading (read_answer b words))
unfolding read_answer read_questions sheet_no Question6
read_answers b words =
    step f (q1b b) _ (Some (refusal 1 0)) _ 1 0 _ refl (question_1 b)
    (λ _. step f (q2b b) _ (Some (refusal 2 0)) _ 2 0 _ refl (question_2 b)
    (λ _. limits_asked f Some (λ n k. refl) (sheet_w b) (sheet_r b) (sheet_n b) _ _
    (λ _ q16 _. pieces_asked b q16.at_least f (λ n k. refl) _
    (λ rs c e all.
    step reading (leb (length (list_words (sheet_pieces b))) words) _ (Err (refusal 15 0)) (Ok (figures_of b)) 15 0 _ refl
    (read_15 b words rs all)
    (λ _. is_granted _ (reading (Ok (figures_of b))) refl refl refl)))))
  where
    f : Option Refusal → Outcome
    f o =
        reading
        (said Err (ask (leb (length (list_words (sheet_pieces b))) words) (Err (refusal 15 0)) λ _. Ok (figures_of b)) o)

-- lay

-- with some two values; which they are is said in LayNumbers
abbrev pub TwoValues : ℕ → List ℕ → List ℕ → Type 0
TwoValues Q rs values = (placed used : ℕ) × (values ≡ placed ∷ used ∷ [])

pub lay_answers : (b : List ℕ) (g strip out work : ℕ) →
    Answers (lay_questions_to TwoValues b g strip out) (laying (lay_answer b g strip out work))
unfolding lay_answer lay_questions_to sheet_no Question4 Question6
lay_answers b g strip out work =
    step f (q1b b) _ (Some (refusal 1 0)) _ 1 0 _ refl (question_1 b)
    (λ _. step f (q2b b) _ (Some (refusal 2 0)) _ 2 0 _ refl (question_2 b)
    (λ _. limits_asked f Some (λ n k. refl) (sheet_w b) (sheet_r b) (sheet_n b) _ _
    (λ _ q16 _. step f (gapb g) _ (Some (refusal 21 0)) _ 21 0 _ refl (question_21 g)
    (λ _. step f (lengthb (sheet_n b) strip) _ (Some (refusal 4 0)) _ 4 0 _ refl (question_4 (sheet_n b) strip)
    (λ _. pieces_asked b q16.at_least f (λ n k. refl) _
    (λ rs c e all.
    step laying (leb (4 * length (piece_records b)) out) _ (Err (refusal 15 0)) totals 15 0 _ refl (lay_15 rs e)
    (λ _. is_granted _ (laying totals) refl refl (_, _, refl))))))))
  where
    totals : Result Totals Refusal
    totals =
        Ok
        (record {
          placed = placed_in (lay_entries b g strip work);
          used = used_in (sheet_r b) (sheet_pieces b) (lay_entries b g strip work);
        })

    f : Option Refusal → Outcome
    f o = laying (said Err (ask (leb (4 * length (piece_records b)) out) (Err (refusal 15 0)) λ _. totals) o)

    lay_15 : (rs : List ℕ) → piece_records b ≡ rs → Decides (leb (4 * length (piece_records b)) out) (Question15 (4 * length rs) out)
    lay_15 rs e =
        subst (λ (n : ℕ). Decides (leb (4 * length (piece_records b)) out) (Question15 (4 * n) out)) (ap length e)
        (question_15 (4 * length (piece_records b)) out)

-- the pieces of a list

long_outline : (ws : List ℕ) → Question7List ws → length (list_piece ws).outline ≡ 2 * get_or ws 0 0
long_outline ws q = length-take-le (2 * get_or ws 0 0) (drop 2 ws) (omega (arith, q.complete, length-drop 2 ws))

shaped_of : (o : List ℕ) (c : ℕ) → length o ≡ 2 * c → 3 ≤ c → c ≤ 64 → Question7 o
shaped_of o c e l m = record { even = omega arith; words = record { at_least = omega arith; at_most = omega arith } }

list_shaped : (ws : List ℕ) → Question7List ws → Question7 (list_piece ws).outline
list_shaped ws q = shaped_of (list_piece ws).outline (get_or ws 0 0) (long_outline ws q) q.count.at_least q.count.at_most

-- the outline of complete words needs no further test
list_7 : (ws : List ℕ) → Decides (q7_listb ws && q7b (list_piece ws).outline) (Question7List ws)
list_7 ws =
    decides_by (λ h. h.0) (λ q. (q, list_shaped ws q))
    (and_decides (question_7_list ws) (question_7 (list_piece ws).outline))

module _ (R : ℕ) (Rpos : 1 ≤ R) (f : Option Refusal → Outcome) (is : (n k : ℕ) → f (Some (refusal n k)) ≡ refused n k) where
  list_asked : (k n : ℕ) (ws : List ℕ) (v : ℕ) (qs : ℕ → Questions) →
      Answers (qs (v + vertices_in (map list_piece (list_tails n ws)))) (f None) →
      Answers (list_questions R k n ws v qs) (f (first_no (list_piece_no R) k (list_tails n ws)))
  unfolding list_questions first_no list_piece_no list_tails vertices_in
  list_asked k zero ws v qs h = let e : v + 0 ≡ v = omega arith in subst (λ (m : ℕ). Answers (qs m) (f None)) e h
  list_asked k (suc n) ws v qs h =
      subst (λ (o : Option Refusal). Answers (list_questions R k (suc n) ws v qs) (f o))
      (sym
      (as_asked (eqb (list_piece_no R ws) 0) (Some (refusal (list_piece_no R ws) k)) (first_no (list_piece_no R) (k + 1) (list_tails n tail))))
      (outline_asked f Some is (q7_listb ws) (q9b (list_piece ws).mask) (list_piece ws).outline (list_piece ws).mask R k Rpos
      (Question7List ws) (Question9 (list_piece ws).mask) (λ _. (list_piece ws).outline)
      (list_7 ws) (list_shaped ws) (λ _. refl) (question_9 (list_piece ws).mask)
      (first_no (list_piece_no R) (k + 1) (list_tails n tail)) (list_questions R (k + 1) n tail (v + get_or ws 0 0) qs)
      (λ q7 _ _.
      list_asked (k + 1) n tail (v + get_or ws 0 0) qs (subst (λ (m : ℕ). Answers (qs m) (f None)) (sum q7) h)))
    where
      tail : List ℕ
      tail = drop (2 + 2 * get_or ws 0 0) ws

      sum : Question7List ws →
          v + (length (list_piece ws).outline / 2 + vertices_in (map list_piece (list_tails n tail))) ≡
          v + get_or ws 0 0 + vertices_in (map list_piece (list_tails n tail))
      sum q = omega (arith, long_outline ws q)

tails_long : (n : ℕ) (ws : List ℕ) → length (map list_piece (list_tails n ws)) ≡ n
unfolding list_tails
tails_long zero ws = refl
tails_long (suc n) ws = ap suc (tails_long n (drop (2 + 2 * get_or ws 0 0) ws))

size_of_list : (ws : List ℕ) →
    size_of (list_pieces ws) ≡ 16 + 6 * (0 + vertices_in (map list_piece (list_tails (get_or ws 0 0) (drop 1 ws)))) + 6 * get_or ws 0 0
unfolding list_pieces
size_of_list ws = omega (arith, tails_long (get_or ws 0 0) (drop 1 ws))

-- write

pub write_answers : (W R N : ℕ) (ws : List ℕ) (bytes : ℕ) →
    Answers (write_questions W R N ws bytes) (writing (write_answer W R N ws bytes))
unfolding write_answer list_no
write_answers W R N ws bytes =
    limits_asked f Some (λ n k. refl) W R N _ _
    (λ _ q16 _. step f (q6_listb ws) _ (Some (refusal 6 0)) _ 6 0 _ refl (question_6_list ws)
    (λ _. list_asked R q16.at_least f (λ n k. refl) 1 (get_or ws 0 0) (drop 1 ws) 0 _
    (subst (λ (n : ℕ). Answers (size_asked n) (f None)) size_is
    (step writing (leb size most_bytes) _ (Err (refusal 2 0)) _ 2 0 _ refl (question_2_size size)
    (λ _. step writing (leb size bytes) _ (Err (refusal 15 0)) (Ok size) 15 0 _ refl (question_15 size bytes)
    (λ _. is_granted _ (writing (Ok size)) refl refl refl))))))
  where
    size : ℕ
    size = size_of (list_pieces ws)

    f : Option Refusal → Outcome
    f o =
        writing
        (said Err
        (ask (leb size most_bytes) (Err (refusal 2 0)) λ _.
        ask (leb size bytes) (Err (refusal 15 0)) λ _.
        Ok size)
        o)

    size_asked : ℕ → Questions
    size_asked n =
        asks 2 0 (Question2Size n) λ _.
        asks 15 0 (Question15 n bytes) λ _.
        grants λ values. values ≡ n ∷ []

    size_is : size ≡ 16 + 6 * (0 + vertices_in (map list_piece (list_tails (get_or ws 0 0) (drop 1 ws)))) + 6 * get_or ws 0 0
    size_is = size_of_list ws
