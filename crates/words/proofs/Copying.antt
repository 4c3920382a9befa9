-- A list copied into another, one after another.
-- Assumes nothing.
use mathlib.Core.Path.{◌≡◌, refl}
use mathlib.Core.List.{List}
use Prim.Native.Nat.{ℕ, suc, ◌+◌, ◌≤◌, ◌<◌}
use native.Mathlib.Omega.{arith}
use native.Mathlib.Numerals.{add-one}
use lib.ListN.{length, get_or, set, drop, drop_of_length-le, length-set}
use lib.Seq.{sets, drop-cons}

-- i words are copied; what is left to copy gives the whole
pub record Copying (w out₀ out : List ℕ) (to i : ℕ) : Type 0 where
  pub within : i ≤ length w
  pub long : length out ≡ length out₀
  pub left : sets out (to + i) (drop i w) ≡ sets out₀ to w

pub copy_start : (w out : List ℕ) (to : ℕ) → Copying w out out to 0
copy_start w out to = let e : to + 0 ≡ to = omega arith in record { within = omega arith; long = refl; left = rw e }

module _ {w out₀ out : List ℕ} {to i : ℕ} (s : Copying w out₀ out to i) where
  pub copy_next : i < length w → Copying w out₀ (set out (to + i) (get_or w i 0)) to (i + 1)
  copy_next l =
      let j : to + (i + 1) ≡ suc (to + i) = omega arith in
      record {
        within = omega arith;
        long = simp length-set s.long;
        left = rw (j, add-one i) (rw (drop-cons w i 0 l) at s.left);
      }

  pub copy_end : length w ≤ i → out ≡ sets out₀ to w
  copy_end l = rw (drop_of_length-le w l) at s.left
