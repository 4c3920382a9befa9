-- The retrace call answers the first "no", and where there is none the first two edges that share a stretch. Assumes nothing.
use mathlib.Core.Path.{◌≡◌, refl, sym, subst}
use mathlib.Core.Logic.{inl, inr}
use mathlib.Core.List.{List, [], ◌∷◌}
use Prim.Native.Nat.{ℕ, ◌+◌}
use Rattle.std.specs.Prelude.{Option, Some, None, Result, Ok, Err}
use Rattle.defs.specs.declared.Refusal.{Refusal}
use Rattle.defs.specs.declared.EdgePair.{EdgePair}
use Rattle.defs.specs.Answer.{retracing}
use Rattle.defs.specs.Computing.Calls.{refusal, q7b, q8b}
use Rattle.laws.proofs.Questions.{question_7, question_8}
use Rattle.strokes.specs.Stroke.{DrawnOnce, FirstShared}
use Rattle.strokes.specs.Retrace.{first_pair, traced, retrace_answer}
use Rattle.strokes.proofs.First.{first_none, first_some}
use Rattle.claims.specs.Numbers.{grants, Answers}
use Rattle.claims.proofs.Asked.{is_granted, step}
use Rattle.knife.specs.Retraced.{retrace_questions, Retrace_asks}

retrace_answers : (o : List ℕ) → Answers (retrace_questions o) (retracing (retrace_answer o))
unfolding retrace_answer
retrace_answers o =
    step retracing (q7b o) _ (Err (refusal 7 1)) _ 7 1 _ refl (question_7 o)
    (λ _. step retracing (q8b o) _ (Err (refusal 8 1)) _ 8 1 _ refl (question_8 o)
    (λ _. found _ (λ once. inl (refl, once)) (λ i j first. inr (i, j, refl, first)) (first_pair o) refl))
  where
    found : (given : List ℕ → Type 0) → (DrawnOnce o → given (0 ∷ 0 ∷ [])) →
        ((i j : ℕ) → FirstShared o i j → given ((i + 1) ∷ (j + 1) ∷ [])) →
        (r : Option EdgePair) → first_pair o ≡ r → Answers (grants given) (retracing (traced r))
    found given nowhere twice None e = is_granted given (retracing (Ok None)) refl refl (nowhere (first_none o e))
    found given nowhere twice (Some p) e =
        let f = first_some o p e in
        is_granted given (retracing (Ok (Some p))) refl refl
        (subst (λ (p : EdgePair). given (p.first ∷ p.second ∷ [])) (sym f.2) (twice f.0 f.1 f.3))

pub retrace_asks : Retrace_asks
unfolding Retrace_asks
retrace_asks o a s = subst (λ (a : Result (Option EdgePair) Refusal). Answers (retrace_questions o) (retracing a)) (sym s.answer) (retrace_answers o)
