-- The step of place. Assumes nothing.
use mathlib.Core.Path.{◌≡◌, ap, ◌∙◌}
use mathlib.Core.List.{List}
use Prim.Native.Nat.{ℕ}
use lib.ListN.{length, replicate}
use Rattle.std.specs.Prelude.{Result}
use Rattle.defs.specs.declared.Position.{Position}
use Rattle.defs.specs.declared.Refusal.{Refusal}
use Rattle.defs.specs.Computing.Calls.{PlaceStep, cleared}
use Rattle.wanted.specs.declared.Wanted.TheVariants.{Best}
use Rattle.wanted.specs.Answers.{answer_to, count_to, Put}

-- with the work buffer cleared, which kept its length
pub step_of : {s o work work' s' : List ℕ} {mask : ℕ} {a : Result Position Refusal} {n : ℕ} (used : List ℕ) → Put s o (Best mask) (length work) a n s' →
    length used ≡ length work → work' ≡ cleared used → PlaceStep s o mask work a n s' work'
unfolding answer_to count_to
step_of used a e z = record { answer = a.answer; counted = a.counted; strip = a.leaves; zeros = z ∙ ap (λ (n : ℕ). replicate n 0) e }
