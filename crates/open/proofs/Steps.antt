-- From the tests of questions 3, 16, 17, 21 and 4 to the step of open.
-- Assumes nothing.
use mathlib.Core.Path.{◌≡◌, ◌∙◌}
use mathlib.Core.Bool.{true, false}
use mathlib.Core.List.{List}
use Prim.Native.Nat.{ℕ, ◌<◌}
use lib.ListN.{length}
use Rattle.std.specs.Prelude.{Result, Ok, Err}
use Rattle.defs.specs.declared.Refusal.{Refusal}
use Rattle.defs.specs.Computing.Words.{figures_no, lengthb}
use Rattle.defs.specs.Computing.Calls.{refusal, open_answer, opened_strip, OpenLeaves, OpenStep}
use Rattle.laws.proofs.Tests.{pos_not_zero}
use Rattle.open.proofs.Empty.{opened_left}
use Rattle.limits.proofs.Passing.{some_no}
use Rattle.defs.specs.Computing.Calls.{passing}

module _ {W R N g : ℕ} {s : List ℕ} where
  refused_step : {s' : List ℕ} {a : Result Unit Refusal} {r : Refusal} → a ≡ Err r →
      Err r ≡ open_answer W R N g (length s) → s' ≡ s → OpenStep W R N g s a s'
  unfolding OpenLeaves
  refused_step e f same = record { answer = e ∙ f; strip = rw e same }

  pub step_figures : {s' : List ℕ} {a : Result Unit Refusal} {r : Refusal} → Err r ≡ passing (figures_no W R N g) → a ≡ Err r → s' ≡ s →
      OpenStep W R N g s a s'
  unfolding open_answer
  step_figures is e same =
      let some = some_no (figures_no W R N g) is in
      refused_step e (rw (pos_not_zero (figures_no W R N g) some.0) some.1) same

  pub step_4 : {s' : List ℕ} {a : Result Unit Refusal} → figures_no W R N g ≡ 0 → lengthb N (length s) ≡ false → a ≡ Err (refusal 4 0) →
      s' ≡ s → OpenStep W R N g s a s'
  unfolding open_answer
  step_4 figures four e same = refused_step e (rw (figures, four)) same

  pub step_opened : {s' : List ℕ} → figures_no W R N g ≡ 0 → lengthb N (length s) ≡ true → s' ≡ opened_strip W R N g (length s) →
      OpenStep W R N g s (Ok tt) s'
  unfolding open_answer OpenLeaves
  step_opened figures four e =
      record { answer = rw (figures, four); strip = rw e (opened_left W R N g (length s) figures four) }
