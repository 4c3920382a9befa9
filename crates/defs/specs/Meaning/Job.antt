-- "Laying a job" of document 01: used length (S-7) and pieces placed, by the fates of a job's pieces. Assumes nothing.
use Rattle.std.specs.Prelude.{◌≡◌, ◌⊎◌, ◌≢◌, List, ℕ, suc, ◌≤◌, ◌<◌}
use Rattle.defs.specs.declared.Position.{Position}
use Rattle.defs.specs.declared.Fate.{Fate}
use Rattle.defs.specs.declared.Fate.TheVariants.{Placed, Refused}
use Rattle.defs.specs.Meaning.Placing.{right_edge}

-- "Used length, of 32 bits, is the greatest right edge, 0 if none", of n pieces
pub record Used (R : ℕ) (outline : ℕ → List ℕ) (fate : ℕ → Fate) (n used : ℕ) : Type 0 where
  pub greatest : (k : ℕ) (p : Position) → k < n → fate k ≡ Placed p → right_edge R (outline k) p ≤ used
  pub reached :
      ((k : ℕ) × (p : Position) × (k < n) × (fate k ≡ Placed p) × (right_edge R (outline k) p ≡ used)) ⊎
      (((k : ℕ) (p : Position) → k < n → fate k ≢ Placed p) × (used ≡ 0))

-- "pieces placed": c of the first n
pub data CountPlaced (fate : ℕ → Fate) : ℕ → ℕ → Type 0 where
  none_yet : CountPlaced fate 0 0
  one_more : {n c : ℕ} (p : Position) → fate n ≡ Placed p → CountPlaced fate n c → CountPlaced fate (suc n) (suc c)
  refused : {n c : ℕ} (m : ℕ) → fate n ≡ Refused m → CountPlaced fate n c → CountPlaced fate (suc n) c
