-- A table of zeros has no run. Assumes nothing.
use mathlib.Core.Path.{◌∙◌}
use native.Mathlib.Omega.{arith}
use Rattle.open.proofs.Empty.{zeros_flat, opened_is}
use Rattle.open.proofs.put_empty.Goals as goal

pub encode-requires : goal.encode-requires
encode-requires c = let r = c.requires in
    record {
      fact_1 = zeros_flat 4097 _ _ _ (omega (arith, r.columns));
      fact_2 = r;
    }

pub returns : goal.returns
returns c = c.encode.ensures ∙ opened_is 4097 _ _ _ _ _ _ _
