-- Laid, the words of strip and output are put back; refused, their bytes stay. Assumes nothing.
use mathlib.Core.Path.{◌≡◌}
use borrow.Author.Rules.{rules}
use Rattle.std.specs.Prelude.{Err}
use Rattle.bytecalls.proofs.Laid.{laid_bytes, unlaid_bytes}
use Rattle.bytecalls.proofs.lay_words.Goals as goal

pub returns : goal.returns
returns c = laid_bytes (record { long = c.requires.fact_1; count = _; counted = c.requires.fact_2; taken = c.take_words.ensures }) (rw c.in_ok-t.was at c.lay.ensures) c.put_words.ensures c.put_words-2.ensures (λ i _. search rules)

pub returns-in_err-t : goal.returns-in_err-t
returns-in_err-t c =
    let e : c.from_residual.result ≡ Err c.in_err-t.field-0.0 = search rules in
    rw e (unlaid_bytes (record { long = c.requires.fact_1; count = _; counted = c.requires.fact_2; taken = c.take_words.ensures }) (rw c.in_err-t.was at c.lay.ensures) (λ i _. (c.type_inv.strip i).fits) (λ i _. search rules))
