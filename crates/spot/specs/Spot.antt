-- A piece at one position. Assumes nothing.
use Rattle.std.specs.Prelude.{Bool, List, ℕ, ◌+◌, ◌≤◌}
use Rattle.laws.proofs.Tests.{Decides}
use Rattle.walk.specs.declared.sought.Search.{Search}
use Rattle.walk.specs.Free.{FreeTo}

-- the answer says whether the p runs, moved to c, y, hold no occupied cell of the N columns
pub record FreeThere (f l h r : List ℕ) (N p c y : ℕ) (a : Bool) : Type 0 where
  pub is : Decides a (FreeTo f l h r N c y p)

-- and whether the piece, of w columns and t rows, is on the strip too
pub record FitsThere (f l h r : List ℕ) (N W p w t c y : ℕ) (a : Bool) : Type 0 where
  pub is : Decides a ((c + w ≤ N) × (y + t ≤ W) × FreeTo f l h r N c y p)

abbrev pub FreeIn : Search → ℕ → ℕ → Bool → Type 0
FreeIn s c y a = FreeThere s.first.now s.lows.now s.highs.now s.runs.now s.columns s.count c y a

abbrev pub FitsIn : Search → ℕ → ℕ → Bool → Type 0
FitsIn s c y a = FitsThere s.first.now s.lows.now s.highs.now s.runs.now s.columns s.width s.count s.wide s.tall c y a
