-- The questions, and then the job. Assumes nothing.
use mathlib.Core.Path.{◌≡◌}
use borrow.Author.Rules.{rules}
use Rattle.std.specs.Prelude.{Err}
use Rattle.laying.proofs.Tops.{lay_refused}
use Rattle.laying.proofs.lay_sheet.Goals as goal

pub lay_asked-requires : goal.lay_asked-requires
lay_asked-requires c = rw c.in_ok-count.was at c.ask.ensures

pub returns-in_err-count : goal.returns-in_err-count
returns-in_err-count c =
    let e : c.from_residual.result ≡ Err c.in_err-count.field-0.0 = search rules in
    lay_refused e (rw c.in_err-count.was at c.ask.ensures)
