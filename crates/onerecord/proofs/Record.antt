-- A record from its three numbers, and its next. Assumes nothing.
use mathlib.Core.Path.{◌≡◌}
use mathlib.Core.List.{List}
use Prim.Native.Nat.{ℕ, suc, ◌+◌, ◌≤◌, ◌<◌}
use native.Mathlib.Omega.{arith}
use lib.Seq.{sets}
use borrow.Author.Tests.{le-leb, lt-leb}
use Rattle.defs.specs.Computing.Sheets.{bytes_of, record_bytes}
use Rattle.onerecord.specs.Link.{link_of}

pub three_numbers : (o o₁ o₂ o₃ : List ℕ) (to x y z : ℕ) → o₁ ≡ sets o to (bytes_of x) → o₂ ≡ sets o₁ (to + 2) (bytes_of y) →
    o₃ ≡ sets o₂ (to + 4) (bytes_of z) → o₃ ≡ sets o to (record_bytes x y z)
three_numbers o o₁ o₂ o₃ to x y z e f g =
    let i : to + 2 ≡ suc (suc to) = omega arith in
    let j : to + 4 ≡ suc (suc (suc (suc to))) = omega arith in
    rw (g, f, e, i, j)

pub link_end : (r left : ℕ) → left ≤ 1 → 0 ≡ link_of r left
unfolding link_of
link_end r left l = rw (le-leb left 1 l)

pub link_on : (r left : ℕ) → 1 < left → r + 1 ≡ link_of r left
unfolding link_of
link_on r left l = rw (lt-leb left 1 l)
