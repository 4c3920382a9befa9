-- The bytes of the bits, where they go. Assumes nothing.
use mathlib.Core.Path.{◌∙◌}
use borrow.Author.Rules.{rules}
use Rattle.stepbytes.proofs.Puts.{four_copied}
use Rattle.stepbytes.proofs.put_bits.Goals as goal

pub returns : goal.returns
returns c =
    four_copied c.args.out.now c.args.at c.args.n (search rules) (c.copy_from_slice.ensures.after ∙ c.to_le_bytes.ensures) c.requires
