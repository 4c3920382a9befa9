-- The first words of a local array, which has no word that is looked at yet. By laws and not by computing, since the array is long.
-- Assumes nothing.
use mathlib.Core.Path.{◌≡◌, ◌∙◌}
use Prim.Native.Nat.{ℕ, ◌≤◌, min}
use native.Mathlib.Omega.{arith}
use lib.ListN.{length, take, replicate, length-replicate}
use lib.Seq.{length-take-le}

pub part_fits : (most : ℕ) {n : ℕ} → n ≤ most → n ≤ length (replicate {A = ℕ} most 0)
part_fits most l = omega (arith, length-replicate {A = ℕ} most 0)

pub part_long : (most : ℕ) {n : ℕ} → n ≤ most → length (take n (replicate {A = ℕ} most 0)) ≡ n
part_long most {n} l = length-take-le n (replicate most 0) (part_fits most l)

-- as many of them as there is room for
pub lesser_most : (room most : ℕ) {n : ℕ} → n ≡ min room most → n ≤ most
lesser_most room most e = omega arith

pub part_is : (room most : ℕ) {n : ℕ} → n ≡ min room most → length (take n (replicate {A = ℕ} most 0)) ≡ min room most
part_is room most e = part_long most (lesser_most room most e) ∙ e
