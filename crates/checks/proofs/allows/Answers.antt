-- `allows` meets its contract: bit t of the mask. Assumes nothing.
use mathlib.Core.Path.{ap}
use Prim.Native.Nat.{ℕ}
use lib.Dec.{eqb}
use Rattle.std.proofs.lemmas.Nat.{and_mask}
use Rattle.defs.specs.Computing.Cells.{allowedb}
use Rattle.checks.proofs.allows.Goals as goal

pub returns : goal.returns
unfolding allowedb
returns c = ap (λ (b : ℕ). eqb b 1) (and_mask _ 1)
