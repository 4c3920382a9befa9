-- 7 to 11 by the first piece with a "no". Assumes nothing.
use mathlib.Core.Path.{◌≡◌, refl}
use borrow.Author.Rules.{rules}
use Rattle.std.specs.Prelude.{Err}
use Rattle.writes.proofs.Outputs.{no_piece_of, refused_step}
use Rattle.writes.proofs.write_pieces.Goals as goal

pub write_sheet-requires : goal.write_sheet-requires
write_sheet-requires c = record { begun = c.requires; none_no = rw c.in_ok-v.was at c.first_no.ensures }

pub returns-in_err-v : goal.returns-in_err-v
returns-in_err-v c =
    let e : c.from_residual.result ≡ Err c.in_err-v.field-0.0 = search rules in
    refused_step e (no_piece_of c.requires (rw c.in_err-v.was at c.first_no.ensures)) refl
