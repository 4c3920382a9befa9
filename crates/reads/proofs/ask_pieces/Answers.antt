-- 7 to 11 by the first piece with a "no". Assumes nothing.
use mathlib.Core.Path.{◌≡◌, refl}
use native.Mathlib.Omega.{arith}
use borrow.Author.Rules.{rules}
use Rattle.std.specs.Prelude.{Err}
use Rattle.reads.proofs.Outputs.{long, chain_ends, resolution, no_piece}
use Rattle.reads.proofs.ask_pieces.Goals as goal

pub number-v-requires : goal.number-v-requires
number-v-requires c = omega (arith, long _ c.requires.begun.one)

pub first_no-requires : goal.first_no-requires
first_no-requires c = record {
  fact_1 = chain_ends c.requires c.number-v.ensures;
  fact_2 = resolution c.requires.begun;
}

pub returns : goal.returns
returns c = record { passed = record { counted = c.requires; none_no = rw c.in_ok-first_no.was at c.first_no.ensures }; gap_fits = refl; four = refl }

pub returns-in_err-first_no : goal.returns-in_err-first_no
returns-in_err-first_no c =
    let e : c.from_residual.result ≡ Err c.in_err-first_no.field-0.0 = search rules in
    rw e (no_piece c.requires (rw c.in_err-first_no.was at c.first_no.ensures))
