-- Opened, the words are put into the strip; refused, its bytes stay. Assumes nothing.
use mathlib.Core.Path.{◌≡◌}
use borrow.Author.Rules.{rules}
use Rattle.std.specs.Prelude.{Err}
use Rattle.bytecalls.proofs.Opened.{opened_bytes, unopened_bytes}
use Rattle.bytecalls.proofs.open_words.Goals as goal

pub returns : goal.returns
returns c = opened_bytes c.requires (rw c.in_ok-open.was at c.open.ensures) c.put_words.ensures

pub returns-in_err-open : goal.returns-in_err-open
returns-in_err-open c =
    let e : c.from_residual.result ≡ Err c.in_err-open.field-0.0 = search rules in
    rw e (unopened_bytes c.requires (rw c.in_err-open.was at c.open.ensures) (λ i _. (c.type_inv.strip i).fits))
