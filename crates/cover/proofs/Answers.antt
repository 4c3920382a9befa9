-- The first question of 7 to 10 that gets "no", by the tests that were made.
-- Assumes nothing.
use mathlib.Core.Path.{◌≡◌, refl, subst}
use mathlib.Core.Logic.{◌↔◌, ⊎_elim}
use mathlib.Core.Bool.{Bool, true, false, cond}
use mathlib.Core.List.{List}
use Prim.Native.Nat.{ℕ, zero, suc, ◌*◌, ◌%◌, ◌^◌, ◌≤◌, ◌<◌}
use native.Mathlib.Omega.{arith}
use lib.Dec.{leb, ltb, eqb}
use borrow.Author.Tests.{le-leb, lt-leb, lt-ltb, leb-true}
use Rattle.std.specs.Prelude.{Result, Ok, Err}
use Rattle.outline.specs.declared.Bounds.{Bounds}
use Rattle.defs.specs.Meaning.Turn.{turned, extent_x}
use Rattle.defs.specs.Computing.Test.{ask}
use Rattle.defs.specs.Computing.Cells.{keeps_orderb, piece_runs, count_runs}
use Rattle.defs.specs.Computing.Words.{resolutionb, gapb}
use Rattle.defs.specs.Computing.Calls.{refusal, q7b, q8b, outline_no, cover_answer}
use Rattle.laws.proofs.Tests.{pos_not_zero}
use Rattle.laws.proofs.Questions.{question_7}
use Rattle.geom.proofs.Strip.{lt_or_le}
use Rattle.geom.proofs.Checks.{keeps_decides, same_run, has_side}
use Rattle.geom.proofs.OneTurn.{orders_one, cell_one, room_one}
use Rattle.checks.specs.Says.{Says}
use Rattle.asked.specs.Answers.{order_no}
use Rattle.cover.specs.Turn.{turn_no}

module _ (o : List ℕ) (t : ℕ) where
  -- 7 to 10 of the mask that allows the turn alone, 9 of the turn
  pub no_turn : 3 < t → order_no o false 0 ≡ turn_no o t
  unfolding order_no turn_no
  no_turn l = rw (lt-leb t 3 l) refl

  pub turn_alone : t ≤ 3 → order_no o true (2 ^ t) ≡ turn_no o t
  unfolding order_no turn_no
  turn_alone l = rw (le-leb t 3 l, orders_one o t l) refl

pub said : (o : List ℕ) (a : Result Bounds ℕ) {m n : ℕ} → m ≡ n → Says o m a → Says o n a
said o a e s = subst (λ (n : ℕ). Says o n a) e s

-- the bit of a turn
pub one_bit : (t : ℕ) → t ≤ 3 → 1 * 2 ^ t % 65536 ≡ 2 ^ t
one_bit zero l = refl
one_bit (suc zero) l = refl
one_bit (suc (suc zero)) l = refl
one_bit (suc (suc (suc zero))) l = refl
one_bit (suc (suc (suc (suc t)))) l = absurd (omega arith)

-- none of them got "no"
pub record Passed (o : List ℕ) (t : ℕ) : Type 0 where
  pub seven : q7b o ≡ true
  pub eight : q8b o ≡ true
  pub nine : t ≤ 3
  pub ten : keeps_orderb (turned o t) (extent_x o t) ≡ true

pub passed : (o : List ℕ) (t : ℕ) → 0 ≡ turn_no o t → Passed o t
unfolding turn_no
passed o t e = go (q7b o) (q8b o) (leb t 3) (keeps_orderb (turned o t) (extent_x o t)) refl refl refl refl e
  where
    go : (a b c d : Bool) → q7b o ≡ a → q8b o ≡ b → leb t 3 ≡ c → keeps_orderb (turned o t) (extent_x o t) ≡ d →
        ◌≡◌ {A = ℕ} 0 (ask a 7 λ _. ask b 8 λ _. ask c 9 λ _. ask d 10 λ _. 0) → Passed o t
    go false b c d ea eb ec ed q = absurd (omega arith)
    go true false c d ea eb ec ed q = absurd (omega arith)
    go true true false d ea eb ec ed q = absurd (omega arith)
    go true true true false ea eb ec ed q = absurd (omega arith)
    go true true true true ea eb ec ed q = record { seven = ea; eight = eb; nine = leb-true t 3 ec; ten = ed }

-- question 11 is asked without the gap
module _ (o : List ℕ) (t R g : ℕ) (none_no : 0 ≡ turn_no o t) (Rpos : 1 ≤ R) where
  pub some_without : (0 < count_runs (piece_runs o t R g)) ↔ (0 < count_runs (piece_runs o t R 0))
  some_without =
      let p = passed o t none_no in
      same_run o t R ((keeps_decides o t).0 p.ten) (has_side o ((question_7 o).0 p.seven)) Rpos g 0

  pub none_without : count_runs (piece_runs o t R g) ≡ 0 → count_runs (piece_runs o t R 0) ≡ 0
  none_without e =
      ⊎_elim (λ l. absurd (omega (arith, some_without.1 l))) (λ l. omega arith) (lt_or_le 0 (count_runs (piece_runs o t R 0)))

-- What cover answers, by the first of 7 to 10 that gets "no" and the number of runs.
module _ (o : List ℕ) (t R g words : ℕ) where
  pub outline_by_turn :
      outline_no o (leb t 3) (2 ^ t) R ≡
      cond (eqb (turn_no o t) 0) (ask (ltb 0 (count_runs (piece_runs o t R 0))) 11 λ _. 0) (turn_no o t)
  unfolding outline_no turn_no
  outline_by_turn =
      go (q7b o) (q8b o) (leb t 3) refl
      (λ h. orders_one o t (leb-true t 3 h)) (λ h. cell_one o R t (leb-true t 3 h))
    where
      go : (a b c : Bool) {d d' e e' : Bool} → leb t 3 ≡ c → (leb t 3 ≡ true → d ≡ d') → (leb t 3 ≡ true → e ≡ e') →
          ◌≡◌ {A = ℕ} (ask a 7 λ _. ask b 8 λ _. ask c 9 λ _. ask d 10 λ _. ask e 11 λ _. 0)
          (cond (eqb (ask a 7 λ _. ask b 8 λ _. ask c 9 λ _. ask d' 10 λ _. 0) 0) (ask e' 11 λ _. 0)
          (ask a 7 λ _. ask b 8 λ _. ask c 9 λ _. ask d' 10 λ _. 0))
      go false b c q f h = refl
      go true false c q f h = refl
      go true true false q f h = refl
      go true true true {d' = false} q f h = rw (f q)
      go true true true {d' = true} q f h = rw (f q, h q)

  pub cover_16 : resolutionb R ≡ false → Err (refusal 16 0) ≡ cover_answer o t R g words
  unfolding cover_answer
  cover_16 e = rw e

  pub cover_21 : resolutionb R ≡ true → gapb g ≡ false → Err (refusal 21 0) ≡ cover_answer o t R g words
  unfolding cover_answer
  cover_21 e x = rw (e, x)

  pub cover_no : {n : ℕ} → resolutionb R ≡ true → gapb g ≡ true → n ≡ turn_no o t → 0 < n → Err (refusal n 1) ≡ cover_answer o t R g words
  unfolding cover_answer
  cover_no {n} e x f h = rw (e, x, outline_by_turn, ← f, pos_not_zero n h, pos_not_zero n h)

  pub cover_11 : resolutionb R ≡ true → gapb g ≡ true → 0 ≡ turn_no o t → count_runs (piece_runs o t R 0) ≡ 0 →
      Err (refusal 11 1) ≡ cover_answer o t R g words
  unfolding cover_answer
  cover_11 e x f h = rw (e, x, outline_by_turn, ← f, h)

  pub cover_12 : resolutionb R ≡ true → gapb g ≡ true → 0 ≡ turn_no o t → 0 < count_runs (piece_runs o t R 0) →
      words < 3 * count_runs (piece_runs o t R g) → Err (refusal 12 1) ≡ cover_answer o t R g words
  unfolding cover_answer
  cover_12 e x f h l =
      rw (
        e,
        x,
        outline_by_turn,
        ← f,
        lt-ltb 0 (count_runs (piece_runs o t R 0)) h,
        room_one o R g words t (passed o t f).nine,
        lt-leb (3 * count_runs (piece_runs o t R g)) words l,
      )

  pub cover_runs : {k : ℕ} → resolutionb R ≡ true → gapb g ≡ true → 0 ≡ turn_no o t → k ≡ count_runs (piece_runs o t R g) → 0 < count_runs (piece_runs o t R 0) → 3 * k ≤ words →
      Ok k ≡ cover_answer o t R g words
  unfolding cover_answer
  cover_runs {k} e x f q some l =
      rw (
        e,
        x,
        outline_by_turn,
        ← f,
        room_one o R g words t (passed o t f).nine,
        ← q,
        lt-ltb 0 (count_runs (piece_runs o t R 0)) some,
        le-leb (3 * k) words l,
      )
