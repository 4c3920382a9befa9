-- The retrace call's questions, in the manner of claims/specs/Numbers: 7 and 8, then the first two edges that share a stretch, or 0 and 0
-- where nothing is drawn twice. Assumes nothing.
use Rattle.std.specs.Prelude.{◌≡◌, ◌⊎◌, List, [], ◌∷◌, ℕ, ◌+◌, Option, Result}
use Rattle.defs.specs.declared.EdgePair.{EdgePair}
use Rattle.defs.specs.declared.Refusal.{Refusal}
use Rattle.defs.specs.Answer.{retracing}
use Rattle.defs.specs.Meaning.Question.{Question7, Question8}
use Rattle.strokes.specs.Stroke.{DrawnOnce, FirstShared}
use Rattle.strokes.specs.Retrace.{RetraceStep}
use Rattle.claims.specs.Numbers.{Questions, asks, grants, Answers}

abbrev pub retrace_questions : List ℕ → Questions
retrace_questions o =
    asks 7 1 (Question7 o) λ _.
    asks 8 1 (Question8 o) λ _.
    grants λ values.
    ((values ≡ 0 ∷ 0 ∷ []) × DrawnOnce o) ⊎ ((i : ℕ) × (j : ℕ) × (values ≡ (i + 1) ∷ (j + 1) ∷ []) × FirstShared o i j)

unfoldable pub Retrace_asks : Type 0
Retrace_asks = (o : List ℕ) (a : Result (Option EdgePair) Refusal) → RetraceStep o a → Answers (retrace_questions o) (retracing a)
