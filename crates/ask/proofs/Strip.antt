-- The step of ask. Assumes nothing.
use mathlib.Core.Path.{◌≡◌, refl, ap, ◌∙◌}
use mathlib.Core.List.{List}
use Prim.Native.Nat.{ℕ}
use lib.ListN.{length, replicate}
use Rattle.std.specs.Prelude.{Result}
use Rattle.defs.specs.declared.Position.{Position}
use Rattle.defs.specs.declared.Refusal.{Refusal}
use Rattle.defs.specs.Computing.Calls.{place_answer, place_tries, ask_answer, AskStep, cleared}
use Rattle.wanted.specs.declared.Wanted.TheVariants.{Best}
use Rattle.wanted.specs.Answers.{answer_to, count_to, Looked}

pub place_answer_lem : {s o f l h : List ℕ} {mask words : ℕ} {a : Result Position Refusal} {n : ℕ} → Looked s o (Best mask) words a n f l h →
    (a ≡ place_answer s o mask words) × (n ≡ place_tries s o mask words)
unfolding answer_to count_to
place_answer_lem x = (x.answer, x.counted)

-- with the work buffer cleared, which kept its length
pub step_of : {s o work work' : List ℕ} {mask : ℕ} {a : Result Position Refusal} {k : ℕ} (used : List ℕ) →
    (a ≡ place_answer s o mask (length work)) × (k ≡ place_tries s o mask (length work)) → length used ≡ length work →
    work' ≡ cleared used → AskStep s o mask work a k s work'
unfolding ask_answer
step_of used e n z =
    record { answer = e.0; counted = e.1; strip = refl; zeros = z ∙ ap (λ (n : ℕ). replicate n 0) n }
