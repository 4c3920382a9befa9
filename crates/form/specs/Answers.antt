-- What each function of the crate answers, case by case.
-- Assumes nothing.
use Rattle.std.specs.Prelude.{◌≡◌, false, List, ℕ, Option, Some, None}
use Rattle.striprecords.specs.declared.Shape.{Shape}
use Rattle.defs.specs.Computing.Words.{well_formedb}
use Rattle.striprecords.specs.Free.{Sized}

abbrev pub Sizes : List ℕ → Option Shape → Type 0
Sizes s (Some g) = Sized s g
Sizes s None = well_formedb s ≡ false
