-- A run that is free, and one that clashes. Assumes nothing.
use mathlib.Core.Path.{◌≡◌, ap}
use mathlib.Core.List.{List}
use Prim.Native.Nat.{ℕ, ◌+◌, ◌≤◌, ◌<◌}
use native.Mathlib.Omega.{arith}
use native.Mathlib.Decide.{dec_lt}
use lib.ListN.{get_or}
use Rattle.runs.specs.Runs.{Passes}
use Rattle.tables.specs.Flat.{Occupied}
use Rattle.tries.specs.Tries.{Column, ClearTo, Lands}

module _ {f l h : List ℕ} {c lo hi y i : ℕ} (k : Column f l h c) (p : Passes h (get_or f c 0) (get_or f (c + 1) 0) (y + lo) i) where
  -- no run of the column meets the rows, up to a height z at which the first that could lies right above them
  pub clear_to : {most z : ℕ} → y ≤ z → z ≤ most → (i < get_or f (c + 1) 0 → z + hi ≤ get_or l i 0) → ClearTo f l h c lo hi y most z
  clear_to {z = z} low high q =
      record { low = low; high = high; clear = λ u a b x v w o. at u x a b v w o (dec_lt o.which i) (dec_lt i o.which) }
    where
      at : (u x : ℕ) → y ≤ u → u ≤ z → u + lo ≤ x → x < u + hi → (o : Occupied f l h c x) →
          Dec (o.which < i) → Dec (i < o.which) → ⊥
      at u x a b v w o (yes s) t = omega (arith, p.within o.which s o.from, o.high)
      at u x a b v w o (no s) (yes t) =
          omega (
            arith,
            q (omega (arith, o.among)),
            k.runs.full i p.from (omega (arith, o.among)),
            k.runs.apart i o.which p.from t o.among,
            o.low,
          )
      at u x a b v w o (no s) (no t) =
          let e : o.which ≡ i = omega arith in
          omega (arith, q (omega (arith, o.among)), o.low, ap (λ (x : ℕ). get_or l x 0) e)

  pub lands : {z : ℕ} → i < get_or f (c + 1) 0 → get_or l i 0 < y + hi → z + lo ≡ get_or h i 0 → Lands f l h c lo hi y z
  lands a b e =
      record { which = i; lowest = record { from = p.from; to = a; over = p.found a; under = b; below = p.within }; on = e }
