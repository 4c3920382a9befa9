-- Lay answers the first "no" in document 01's order, and where there is none the totals of its pieces' fates.
-- Assumes nothing.
use mathlib.Core.Path.{refl, sym, ap, subst, ◌∙◌}
use mathlib.Core.Logic.{inl, inr, ⊎_elim}
use mathlib.Core.List.{List, [], ◌∷◌}
use Prim.Native.Nat.{ℕ, ◌+◌}
use native.Mathlib.Omega.{arith}
use lib.ListN.{length}
use Rattle.std.specs.Prelude.{Result, Ok, Err}
use Rattle.defs.specs.declared.Refusal.{Refusal}
use Rattle.defs.specs.declared.Totals.{Totals}
use Rattle.defs.specs.Answer.{Outcome, laying}
use Rattle.defs.specs.Meaning.Limits.{most_pieces}
use Rattle.defs.specs.Meaning.Strip.{Length}
use Rattle.defs.specs.Meaning.Sheet.{PieceChain, Pieces, sheet_n}
use Rattle.defs.specs.Meaning.Question.{Question4, Question6, Question7Sheet}
use Rattle.defs.specs.Computing.Lay.{LayStep}
use Rattle.laws.proofs.SheetChains.{chain_is}
use Rattle.claims.specs.Numbers.{Questions, asks, grants, Answers, chain_questions, LaidTotals, lay_questions, lay_questions_to}
use Rattle.claims.proofs.SheetNumbers.{TwoValues, lay_answers}
use Rattle.claims.proofs.LayList.{lays_list}
use Rattle.claims.proofs.ListNumbers.{lay_fate}

-- other questions after a "yes", which the answer answers where it answers the first ones
asks_on : (n k : ℕ) (P : Type 0) (qs qs' : P → Questions) (a : Outcome) → ((p : P) → Answers (qs p) a → Answers (qs' p) a) →
    Answers (asks n k P qs) a → Answers (asks n k P qs') a
unfolding Answers
asks_on n k P qs qs' a f h = ⊎_elim (λ no_one. inl no_one) (λ yes-one. inr (yes-one.0, λ p. f p (yes-one.1 p))) h

grants_on : (given given' : List ℕ → Type 0) (a : Outcome) → (given a.values → given' a.values) → Answers (grants given) a →
    Answers (grants given') a
unfolding Answers
grants_on given given' a f h = (h.0, h.1, f h.2)

chain_on : (b : List ℕ) (k : ℕ) (rs : List ℕ) (qs qs' : Questions) (a : Outcome) → (Answers qs a → Answers qs' a) →
    Answers (chain_questions b k rs qs) a → Answers (chain_questions b k rs qs') a
unfolding chain_questions Question7Sheet
chain_on b k [] qs qs' a f h = f h
chain_on b k (r ∷ rs) qs qs' a f h =
    asks_on 7 k _ _ _ a
    (λ q7. asks_on 8 k _ _ _ a
    (λ _. asks_on 9 k _ _ _ a
    (λ _. asks_on 10 k _ _ _ a
    (λ _. asks_on 11 k _ _ _ a
    (λ _. chain_on b (k + 1) rs qs qs' a f))))) h

lay_on : (b : List ℕ) (g strip out : ℕ) (G G' : ℕ → List ℕ → List ℕ → Type 0) (a : Outcome) →
    ((Q : ℕ) (rs : List ℕ) → Length (sheet_n b) Q strip → PieceChain b rs → G Q rs a.values → G' Q rs a.values) →
    Answers (lay_questions_to G b g strip out) a → Answers (lay_questions_to G' b g strip out) a
unfolding lay_questions_to Question4 Question6
lay_on b g strip out G G' a f h =
    asks_on 1 0 _ _ _ a
    (λ _. asks_on 2 0 _ _ _ a
    (λ _. asks_on 3 0 _ _ _ a
    (λ _. asks_on 16 0 _ _ _ a
    (λ _. asks_on 17 0 _ _ _ a
    (λ _. asks_on 21 0 _ _ _ a
    (λ _. asks_on 4 0 _ _ _ a
    (λ (q4 : Question4 (sheet_n b) strip). asks_on 6 0 _ _ _ a
    (λ (q6 : Question6 b). chain_on b 1 q6.0 _ _ a
    (asks_on 15 0 _ _ _ a
    (λ _. grants_on (G q4.0 q6.0) (G' q4.0 q6.0) a (f q4.0 q6.0 q4.1 q6.1))))))))))) h

pub lay_asked : {b : List ℕ} {g : ℕ} {s out work s' out' work' : List ℕ} {a : Result Totals Refusal} → LayStep b g s out work a s' out' work' →
    Answers (lay_questions b g (length s) (length out) (length work)) (laying a)
lay_asked {b} {g} {s} {out} {work} {s'} {out'} {work'} {a} x =
    lay_on b g (length s) (length out) TwoValues (LaidTotals b g (length work)) (laying a) (λ Q rs long c. totals a x Q rs long c)
    (subst (λ (r : Result Totals Refusal). Answers (lay_questions_to TwoValues b g (length s) (length out)) (laying r)) (sym x.answer)
    (lay_answers b g (length s) (length out) (length work)))
  where
    totals : (r : Result Totals Refusal) → LayStep b g s out work r s' out' work' → (Q : ℕ) (rs : List ℕ) → Length (sheet_n b) Q (length s) →
        PieceChain b rs → TwoValues Q rs (laying r).values → LaidTotals b g (length work) Q rs (laying r).values
    totals (Ok t) y Q rs long c v =
        let l = lays_list y in
        record {
          pieces = l.pieces;
          are_pieces =
              subst (λ (ks : List ℕ). Pieces b ks l.pieces)
              (sym (chain_is most_pieces l.sheet.q6.chain l.sheet.q6.most) ∙ chain_is most_pieces c.chain c.most)
              l.sheet.pieces;
          answer = λ m. (l.list.call m).answer;
          fates = λ m h. lay_fate y l Q long m h;
          placed = t.placed;
          used = t.used;
          counted = l.placed;
          reached = l.used;
          values_are = refl;
        }
    totals (Err r) y Q rs long c v = let e = ap length v.2 in absurd (omega arith)
