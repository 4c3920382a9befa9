-- A number of 32 bits is got back from the high ones. Assumes nothing.
use native.Mathlib.Omega.{arith}
use borrow.Author.Rules.{rules}
use Rattle.packing.proofs.Bits.{wide}
use Rattle.packing.proofs.pack_wide.Goals as goal

pub returns : goal.returns
returns c = wide _ 0 _ _ (omega arith) (omega arith) (search rules) (search rules)
