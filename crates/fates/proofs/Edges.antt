-- The right edge of a position, worked out from the extent of its turn; a tally after an answer. Assumes nothing.
use mathlib.Core.Path.{◌≡◌, refl, sym}
use mathlib.Core.Bool.{true, false, not, false≢true}
use mathlib.Core.List.{List}
use Prim.Native.Nat.{ℕ, ◌+◌, ◌*◌, max}
use native.Mathlib.Omega.{arith}
use Rattle.std.specs.Prelude.{Result, Ok, Err, is_ok}
use Rattle.defs.specs.declared.Refusal.{Refusal}
use Rattle.fates.specs.declared.Tally.{Tally}
use Rattle.fates.specs.Fates.{lower_by, tallied}
use Rattle.defs.specs.declared.Position.{Position}
use Rattle.defs.specs.Meaning.Turn.{extent_x}
use Rattle.defs.specs.Meaning.Placing.{right_edge}

pub edge_is : (o : List ℕ) (R : ℕ) {w n : ℕ} (p : Position) → w ≡ extent_x o p.turn → n ≡ p.column * R + w → n ≡ right_edge R o p
unfolding right_edge
edge_is o R p e f = rw (f, e)

-- a tally after an answer, by its cases
module _ (t : Tally) (right : ℕ) {lower : ℕ} where
  pub counted_ok : (a : Result Position Refusal) → lower ≡ lower_by a right → is_ok a ≡ true →
      ◌≡◌ {A = Tally}
      (record { ordinal = t.ordinal + 1; placed = t.placed + 1; used = max t.used right; second = not t.second; lower = lower })
      (tallied t a right)
  counted_ok (Ok p) e y = rw e refl
  counted_ok (Err r) e y = absurd (false≢true y)

  pub counted_err : (a : Result Position Refusal) → lower ≡ lower_by a right → is_ok a ≡ false →
      ◌≡◌ {A = Tally}
      (record { ordinal = t.ordinal + 1; placed = t.placed; used = max t.used right; second = t.second; lower = lower })
      (tallied t a right)
  counted_err (Ok p) e n = absurd (false≢true (sym n))
  counted_err (Err r) e n = let z : t.placed + 0 ≡ t.placed = omega arith in rw (e, z) refl
