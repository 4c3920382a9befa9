-- Length and limits, by the tests of questions 3, 16, 17, 21 and 4. Assumes nothing.
use mathlib.Core.Path.{◌≡◌, refl, sym, ◌∙◌}
use mathlib.Core.Logic.{◌≢◌}
use Prim.Native.Nat.{ℕ, zero, suc}
use native.Mathlib.Omega.{arith}
use borrow.Author.Rules.{rules}
use Rattle.std.specs.Prelude.{Option, Some, None}
use Rattle.std.specs.Result.{result_ok}
use Rattle.defs.specs.Computing.Calls.{passing}
use Rattle.form.proofs.Totals.{short, past_limits, wrong_length, sized}
use Rattle.form.proofs.measure.Goals as goal

fails : (n : ℕ) → result_ok (passing n) ≡ None → n ≢ 0
fails zero e = absurd (cc e)
fails (suc k) e = λ z. omega (arith, z)

passes : (n : ℕ) {x : Unit} → result_ok (passing n) ≡ Some x → n ≡ 0
passes zero e = refl
passes (suc k) e = absurd (cc e)

pub returns-then-l-lt-LEADING_WORDS : goal.returns-then-l-lt-LEADING_WORDS
returns-then-l-lt-LEADING_WORDS c = short _ c.if-l-lt-LEADING_WORDS.true

pub returns-in_err-ok : goal.returns-in_err-ok
returns-in_err-ok c =
    let e : c.from_residual.result ≡ None = search rules in
    rw e (past_limits _ (fails _ (sym (rw c.figures.ensures at c.ok.ensures.value) ∙ c.in_err-ok.was)))

pub returns-then-not-length_fits : goal.returns-then-not-length_fits
returns-then-not-length_fits c = wrong_length _ (sym c.length_fits.ensures ∙ c.if-not-length_fits.true)

pub returns : goal.returns
returns c =
    let b = c.if-not-length_fits.false in
    sized _ (passes _ (sym (rw c.figures.ensures at c.ok.ensures.value) ∙ c.in_ok-ok.was))
    (sym c.length_fits.ensures ∙ b) c.word.ensures.value
    c.word-2.ensures.value c.records_of.ensures
