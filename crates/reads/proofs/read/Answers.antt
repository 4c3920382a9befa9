-- The read call: the questions, and then the list. Assumes nothing.
use mathlib.Core.Path.{◌≡◌, refl}
use borrow.Author.Rules.{rules}
use Rattle.std.specs.Prelude.{Err}
use Rattle.reads.proofs.Outputs.{refused_step}
use Rattle.reads.proofs.read.Goals as goal

pub read_list-requires : goal.read_list-requires
read_list-requires c = (rw c.in_ok-count.was at c.ask.ensures).passed

pub returns-in_err-count : goal.returns-in_err-count
returns-in_err-count c =
    let e : c.from_residual.result ≡ Err c.in_err-count.field-0.0 = search rules in
    refused_step e (rw c.in_err-count.was at c.ask.ensures) refl
