-- Half of a work buffer, where half has as many words as are used: it stands for all of it, and clearing the buffer afterwards clears what the
-- call on the half has left. Assumes nothing.
use mathlib.Core.Path.{◌≡◌, ap, ◌∙◌}
use mathlib.Core.List.{List, ◌++◌}
use Prim.Native.Nat.{ℕ, ◌/◌, ◌≤◌, min}
use native.Mathlib.Omega.{arith}
use lib.ListN.{length, take, drop, length-append, length-drop, length-replicate}
use lib.Seq.{length-take-le}
use Rattle.defs.specs.Computing.Calls.{cleared}
use Rattle.defs.specs.Computing.Bytes.{words_in, most_work, bytes_left}
use Rattle.bytewords.proofs.Laws.{left_length, cleared_same, odd_kept}

module _ (work : List ℕ) where
  abbrev half : ℕ
  half = length work / 2

  pub front_long : length (take half work) ≡ half
  front_long = length-take-le half work (omega arith)

  pub half_serves : 3072000 ≤ half → min (length (take half work) / 2) most_work ≡ min half most_work
  half_serves l = omega (arith, front_long)

  module _ {front zeros : List ℕ} (left : front ≡ bytes_left (take half work) zeros) (none : zeros ≡ cleared (words_in (take half work))) where
    left_long : length front ≡ half
    left_long =
        ap length left ∙
        left_length (take half work) zeros (ap length none ∙ length-replicate (length (words_in (take half work))) 0) ∙ front_long

    whole_long : length (front ++ drop half work) ≡ length work
    whole_long = omega (arith, left_long, length-append front (drop half work), length-drop half work)

    pub half_cleared : {work' : List ℕ} → work' ≡ bytes_left (front ++ drop half work) (cleared (words_in (front ++ drop half work))) →
        work' ≡ bytes_left work (cleared (words_in work))
    half_cleared e = e ∙ cleared_same work (front ++ drop half work) whole_long (odd_kept work front half left_long (omega arith))
