-- A search of all columns, and one of a range. Assumes nothing.
use mathlib.Core.Path.{◌≡◌}
use mathlib.Core.Logic.{⊎_elim}
use mathlib.Core.List.{List}
use Prim.Native.Nat.{ℕ}
use native.Mathlib.Omega.{arith}
use Rattle.std.specs.Prelude.{Option, Some, None}
use Rattle.geom.proofs.Strip.{lt_or_le}
use Rattle.walk.specs.declared.WithTries.{WithTries}
use Rattle.walk.specs.Free.{Searched}
use Rattle.walk.specs.Steps.{WalkedTurn}
use Rattle.round.specs.Range.{SearchedIn}
use Rattle.search.specs.declared.Way.TheVariants.{Walk as ByWalk, Round}
use Rattle.search.specs.Searched.{FullBefore, SearchedTo, Looks}

-- a whole search, and one from column `from` to `end`, where no column before `from` has a free height
module _ (f l h r : List ℕ) (N W p w t end : ℕ) where
  walked_to : (s : Option (ℕ × ℕ)) → Searched f l h r N W p w t s → SearchedTo f l h r N W p w t end s
  walked_to (Some (c, y)) e = e
  walked_to None e = λ c _. e c

  rounded_to : {from : ℕ} (s : Option (ℕ × ℕ)) → FullBefore f l h r N W p w t from → SearchedIn f l h r N W p w t from end s →
      SearchedTo f l h r N W p w t end s
  rounded_to {from} (Some (c, y)) full e =
      record {
        fits = e.fits;
        height = e.height;
        least =
            λ b u. ⊎_elim (λ before. full.none b before (omega (arith, e.fits))) (λ after. e.least b after u) (lt_or_le b from);
      }
  rounded_to {from} None full e =
      λ c u fits. ⊎_elim (λ before. full.none c before fits) (λ after. e c after u fits) (lt_or_le c from)

  pub walked_looks : (a : WithTries (Option (ℕ × ℕ))) → WalkedTurn f l h r N W p w t a → Looks f l h r N W p w t end ByWalk a
  walked_looks a e = record { spot = walked_to a.found e.spot; steps = e.steps; few = e.few }

  -- by the columns that were worked out
  pub rounded_looks : {from start stop : ℕ} (s : Option (ℕ × ℕ)) → FullBefore f l h r N W p w t from → start ≡ from → stop ≡ end →
      SearchedIn f l h r N W p w t start stop s → Looks f l h r N W p w t end Round (record { found = s; tries = 0 })
  rounded_looks s full a z e = record { spot = rounded_to s full (rw (a, z) at e); steps = tt; few = omega arith }
