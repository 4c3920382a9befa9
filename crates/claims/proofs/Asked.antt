-- Questions asked by tests, one after another: where each test decides its question, what comes out is the answer to the questions.
-- Assumes nothing.
use mathlib.Core.Path.{◌≡◌, refl, sym, ap, subst, ◌∙◌}
use mathlib.Core.Logic.{inl, inr, ⊎_elim}
use mathlib.Core.Bool.{Bool, true, false, ◌&&◌, false≢true}
use mathlib.Core.List.{List, []}
use Prim.Native.Nat.{ℕ, zero, suc, ◌≤◌}
use lib.Dec.{eqb, eqb-suc-zero}
use Rattle.defs.specs.declared.Refusal.{Refusal}
use Rattle.defs.specs.Answer.{Outcome}
use Rattle.defs.specs.Meaning.Question.{Question3, Question16, Question17, Question21, Question7, Question8, Question10, Question11}
use Rattle.defs.specs.Computing.Test.{ask}
use Rattle.defs.specs.Computing.Cells.{ordersb}
use Rattle.defs.specs.Computing.Words.{widthb, resolutionb, columnsb, gapb, limits_no, figures_no}
use Rattle.defs.specs.Computing.Calls.{refusal, q7b, q8b, q11b, outline_no}
use Rattle.laws.proofs.Tests.{Decides}
use Rattle.laws.proofs.Questions.{question_3, question_16, question_17, question_21, question_8}
use Rattle.geom.proofs.Checks.{question_10, question_11, has_side}
use Rattle.claims.specs.Numbers.{Questions, asks, grants, Answers, One_answer}

-- a "no" as an outcome
abbrev pub refused : ℕ → ℕ → Outcome
refused n k = record { number = n; ordinal = k; values = [] }

pub gets_no : (n k : ℕ) (P : Type 0) (qs : P → Questions) (a : Outcome) → ¬ P → a ≡ refused n k → Answers (asks n k P qs) a
unfolding Answers
gets_no n k P qs a p e =
    inl (p, ap (λ (x : Outcome). x.number) e, ap (λ (x : Outcome). x.ordinal) e, ap (λ (x : Outcome). x.values) e)

pub gets_yes : (n k : ℕ) (P : Type 0) (qs : P → Questions) (a : Outcome) → P → ((p : P) → Answers (qs p) a) → Answers (asks n k P qs) a
unfolding Answers
gets_yes n k P qs a p h = inr (p, h)

pub is_granted : (given : List ℕ → Type 0) (a : Outcome) → a.number ≡ 0 → a.ordinal ≡ 0 → given a.values → Answers (grants given) a
unfolding Answers
is_granted given a en ek v = (en, ek, v)

-- the questions after one that gets "yes"
pub after_yes : (n k : ℕ) (P : Type 0) (qs : P → Questions) (a : Outcome) → Answers (asks n k P qs) a → (p : P) → Answers (qs p) a
unfolding Answers
after_yes n k P qs a h p = ⊎_elim (λ no_one. absurd (no_one.0 p)) (λ yes-one. yes-one.1 p) h

pub one_answer : One_answer
unfolding One_answer Answers
one_answer (asks n k P next) a b x y =
    ⊎_elim
    (λ u. ⊎_elim (λ v. (u.1 ∙ sym v.1, u.2 ∙ sym v.2)) (λ v. absurd (u.0 v.0)) y)
    (λ u. ⊎_elim (λ v. absurd (v.0 u.0)) (λ v. one_answer (next u.0) a b (u.1 u.0) (v.1 u.0)) y)
    x
one_answer (grants given) a b x y = (x.0 ∙ sym y.0, x.1 ∙ sym y.1)

pub step : {A : Type 0} (f : A → Outcome) (b : Bool) (P : Type 0) (refuse rest : A) (n k : ℕ) (qs : P → Questions) →
    f refuse ≡ refused n k → Decides b P → ((p : P) → Answers (qs p) (f rest)) →
    Answers (asks n k P qs) (f (ask b refuse λ _. rest))
step f true P refuse rest n k qs e d h = gets_yes n k P qs (f rest) (d.0 refl) h
step f false P refuse rest n k qs e d h = gets_no n k P qs (f refuse) (λ p. false≢true (d.1 p)) e

-- a first number of several, asked as each question in turn
three : {A : Type 0} (w r n : Bool) (refuse : ℕ → A) (rest : A) →
    (ask (eqb (ask w 3 λ _. ask r 16 λ _. ask n 17 λ _. 0) 0) (refuse (ask w 3 λ _. ask r 16 λ _. ask n 17 λ _. 0)) λ _. rest) ≡
    (ask w (refuse 3) λ _. ask r (refuse 16) λ _. ask n (refuse 17) λ _. rest)
three false r n refuse rest = refl
three true false n refuse rest = refl
three true true false refuse rest = refl
three true true true refuse rest = refl

-- 21 after them
gap_last : {A : Type 0} (n : ℕ) (b : Bool) (refuse : ℕ → A) (rest : A) →
    (ask (eqb (ask (eqb n 0) n λ _. ask b 21 λ _. 0) 0) (refuse (ask (eqb n 0) n λ _. ask b 21 λ _. 0)) λ _. rest) ≡
    (ask (eqb n 0) (refuse n) λ _. ask b (refuse 21) λ _. rest)
gap_last zero true refuse rest = refl
gap_last zero false refuse rest = refl
gap_last (suc n) b refuse rest = rw (eqb-suc-zero n, eqb-suc-zero n) refl

-- 7 in two tests, as a sheet and a list ask it
six : {A : Type 0} (e b7 b8 b9 b10 b11 : Bool) (refuse : ℕ → A) (rest : A) →
    (ask (eqb (ask e 7 λ _. ask b7 7 λ _. ask b8 8 λ _. ask b9 9 λ _. ask b10 10 λ _. ask b11 11 λ _. 0) 0)
    (refuse (ask e 7 λ _. ask b7 7 λ _. ask b8 8 λ _. ask b9 9 λ _. ask b10 10 λ _. ask b11 11 λ _. 0)) λ _. rest) ≡
    (ask (e && b7) (refuse 7) λ _. ask b8 (refuse 8) λ _. ask b9 (refuse 9) λ _. ask b10 (refuse 10) λ _. ask b11 (refuse 11) λ _. rest)
six false b7 b8 b9 b10 b11 refuse rest = refl
six true false b8 b9 b10 b11 refuse rest = refl
six true true false b9 b10 b11 refuse rest = refl
six true true true false b10 b11 refuse rest = refl
six true true true true false b11 refuse rest = refl
six true true true true true false refuse rest = refl
six true true true true true true refuse rest = refl

module _ {A : Type 0} (f : A → Outcome) (refuse : Refusal → A) (is : (n k : ℕ) → f (refuse (refusal n k)) ≡ refused n k) where
  -- 3, 16, 17
  pub limits_asked : (W R N : ℕ) (rest : A) (qs : Questions) → (Question3 W → Question16 R → Question17 N → Answers qs (f rest)) →
      Answers (asks 3 0 (Question3 W) λ _. asks 16 0 (Question16 R) λ _. asks 17 0 (Question17 N) λ _. qs)
      (f (ask (eqb (limits_no W R N) 0) (refuse (refusal (limits_no W R N) 0)) λ _. rest))
  unfolding limits_no
  limits_asked W R N rest qs h =
      subst (λ (a : A). Answers (asks 3 0 (Question3 W) λ _. asks 16 0 (Question16 R) λ _. asks 17 0 (Question17 N) λ _. qs) (f a))
      (sym (three (widthb W) (resolutionb R) (columnsb N) (λ n. refuse (refusal n 0)) rest))
      (step f (widthb W) _ (refuse (refusal 3 0)) _ 3 0 _ (is 3 0) (question_3 W)
      (λ q3. step f (resolutionb R) _ (refuse (refusal 16 0)) _ 16 0 _ (is 16 0) (question_16 R)
      (λ q16. step f (columnsb N) _ (refuse (refusal 17 0)) _ 17 0 _ (is 17 0) (question_17 N)
      (λ q17. h q3 q16 q17))))

  -- and 21
  pub figures_asked : (W R N g : ℕ) (rest : A) (qs : Questions) → Answers qs (f rest) →
      Answers (asks 3 0 (Question3 W) λ _. asks 16 0 (Question16 R) λ _. asks 17 0 (Question17 N) λ _. asks 21 0 (Question21 g) λ _. qs)
      (f (ask (eqb (figures_no W R N g) 0) (refuse (refusal (figures_no W R N g) 0)) λ _. rest))
  unfolding figures_no
  figures_asked W R N g rest qs h =
      subst
      (λ (a : A).
      Answers (asks 3 0 (Question3 W) λ _. asks 16 0 (Question16 R) λ _. asks 17 0 (Question17 N) λ _. asks 21 0 (Question21 g) λ _. qs)
      (f a))
      (sym (gap_last (limits_no W R N) (gapb g) (λ n. refuse (refusal n 0)) rest))
      (limits_asked W R N _ _
      (λ _ _ _. step f (gapb g) _ (refuse (refusal 21 0)) _ 21 0 _ (is 21 0) (question_21 g) (λ _. h)))

  -- 7 in the form in which the call asks it, then 8 to 11 of the outline that it finds, which is o
  module _
      (first ninth : Bool)
      (o : List ℕ)
      (mask R k : ℕ)
      (Rpos : 1 ≤ R)
      (P7 P9 : Type 0)
      (outline : P7 → List ℕ)
      (seven : Decides (first && q7b o) P7)
      (shaped : P7 → Question7 o)
      (same : (p : P7) → outline p ≡ o)
      (nine : Decides ninth P9) where
    -- 8 to 11, as questions and as tests
    abbrev later : Questions → List ℕ → Questions
    later qs v =
        asks 8 k (Question8 v) λ _.
        asks 9 k P9 λ _.
        asks 10 k (Question10 v mask) λ _.
        asks 11 k (Question11 v mask R) λ _.
        qs

    abbrev tests : A → A
    tests rest =
        ask (q8b o) (refuse (refusal 8 k)) λ _.
        ask ninth (refuse (refusal 9 k)) λ _.
        ask (ordersb o mask) (refuse (refusal 10 k)) λ _.
        ask (q11b o mask R) (refuse (refusal 11 k)) λ _.
        rest

    pub outline_asked : (rest : A) (qs : Questions) → (P7 → P9 → Question10 o mask → Answers qs (f rest)) →
        Answers
        (asks 7 k P7 λ q7.
        asks 8 k (Question8 (outline q7)) λ _.
        asks 9 k P9 λ _.
        asks 10 k (Question10 (outline q7) mask) λ _.
        asks 11 k (Question11 (outline q7) mask R) λ _.
        qs)
        (f
        (ask (eqb (ask first 7 λ _. outline_no o ninth mask R) 0) (refuse (refusal (ask first 7 λ _. outline_no o ninth mask R) k)) λ _.
        rest))
    unfolding outline_no
    outline_asked rest qs h =
        subst (λ (a : A). Answers (asks 7 k P7 λ q7. later qs (outline q7)) (f a))
        (sym (six first (q7b o) (q8b o) ninth (ordersb o mask) (q11b o mask R) (λ n. refuse (refusal n k)) rest))
        (step f (first && q7b o) _ (refuse (refusal 7 k)) _ 7 k _ (is 7 k) seven
        (λ p.
        subst (λ (v : List ℕ). Answers (later qs v) (f (tests rest))) (sym (same p))
        (step f (q8b o) _ (refuse (refusal 8 k)) _ 8 k _ (is 8 k) (question_8 o)
        (λ _. step f ninth _ (refuse (refusal 9 k)) _ 9 k _ (is 9 k) nine
        (λ q9. step f (ordersb o mask) _ (refuse (refusal 10 k)) _ 10 k _ (is 10 k) (question_10 o mask)
        (λ q10. step f (q11b o mask R) _ (refuse (refusal 11 k)) _ 11 k _ (is 11 k)
        (question_11 o mask R q10 (has_side o (shaped p)) Rpos)
        (λ _. h p q9 q10)))))))
