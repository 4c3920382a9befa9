-- Zeros fill the words' bytes. Assumes nothing.
use mathlib.Core.Path.{refl, ap, ◌∙◌}
use Prim.Native.Nat.{ℕ}
use native.Mathlib.Omega.{arith}
use lib.ListN.{replicate}
use lib.Seq.{length-take-le}
use Rattle.bytewords.proofs.Loops.{cleared_is}
use Rattle.bytewords.proofs.clear_words.Goals as goal

pub returns : goal.returns
returns c =
    cleared_is c.args.bytes.now c.fill.new.self _ refl
    (c.fill.ensures.after (λ y e. e) ∙ ap (λ (n : ℕ). replicate n 0) (length-take-le _ c.args.bytes.now (omega arith)))
