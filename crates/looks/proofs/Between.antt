-- Between a clash and the next height no height is free: the clash's two runs still meet there, since the piece's run has not passed the
-- occupied one. Assumes nothing.
use mathlib.Core.Path.{◌≡◌, refl, sym, ap, subst}
use mathlib.Core.Bool.{Bool, true, false, cond, not, ◌&&◌, ◌||◌}
use mathlib.Core.List.{List, [], ◌∷◌}
use Prim.Native.Nat.{ℕ, ◌+◌, ◌-◌, ◌≤◌, ◌<◌}
use native.Mathlib.Omega.{arith}
use lib.Dec.{ltb}
use borrow.Author.Tests.{lt-ltb, ltb-true}
use Rattle.std.specs.Prelude.{Option, Some, None}
use Rattle.std.proofs.lemmas.Option.{same_Some, none-some}
use Rattle.defs.specs.Computing.Test.{any}
use Rattle.defs.specs.Computing.Cells.{Rows}
use Rattle.defs.specs.Computing.Search.{meets, freeb}
use Rattle.defs.specs.Computing.Walk.{Clash, lowest_met, clash_or, clash_in, first_of, first_clash, next_height}
use Rattle.laws.proofs.Tests.{and_right, and_both, or_left, or_right}

and_no : (a : Bool) {b : Bool} → b ≡ false → (a && b) ≡ false
and_no true e = e
and_no false e = refl

-- at height u, from the clash's height y on
module _ (y u : ℕ) (l : y ≤ u) where
  still_meets : (r b : Rows) → u < b.high - r.low → meets y r b ≡ true → meets u r b ≡ true
  unfolding meets
  still_meets r b h e =
      and_both (lt-ltb (r.low + u) b.high (omega arith))
      (lt-ltb b.low (r.high + u) (omega (arith, ltb-true b.low (r.high + y) (and_right (ltb (r.low + y) b.high) _ e))))

  run_taken : (r : Rows) (bs : List Rows) (b : Rows) → lowest_met y r bs ≡ Some b → u < b.high - r.low → any (meets u r) bs ≡ true
  unfolding lowest_met any
  run_taken r [] b e h = absurd (none-some b e)
  run_taken r (x ∷ bs) b e h = go (meets y r x) refl e (λ q. run_taken r bs b q h)
    where
      go : (m : Bool) → meets y r x ≡ m → cond m (Some x) (lowest_met y r bs) ≡ Some b →
          (lowest_met y r bs ≡ Some b → any (meets u r) bs ≡ true) → (meets u r x || any (meets u r) bs) ≡ true
      go true t q later =
          let is : x ≡ b = same_Some _ _ q in
          or_left _ (still_meets r x (rw is h) t)
      go false t q later = or_right (meets u r x) (later q)

  column_taken : (c b : List Rows) (m : Clash) → clash_in y c b ≡ Some m → u < next_height m →
      any (λ (x : Rows). any (meets u x) b) c ≡ true
  unfolding clash_in clash_or any
  column_taken [] b m e h = absurd (none-some m e)
  column_taken (r ∷ rs) b m e h = go (lowest_met y r b) refl e (λ q. column_taken rs b m q h)
    where
      go : (x : Option Rows) → lowest_met y r b ≡ x → clash_or r x (clash_in y rs b) ≡ Some m →
          (clash_in y rs b ≡ Some m → any (λ (x : Rows). any (meets u x) b) rs ≡ true) →
          (any (meets u r) b || any (λ (x : Rows). any (meets u x) b) rs) ≡ true
      go None t q later = or_right (any (meets u r) b) (later q)
      go (Some x) t q later =
          or_left _ (run_taken r b x t (subst (λ (k : Clash). u < next_height k) (sym (same_Some _ _ q)) h))

  pub between_taken : (piece there : List (List Rows)) (m : Clash) → first_clash y piece there ≡ Some m → u < next_height m →
      freeb u piece there ≡ false
  unfolding first_clash first_of freeb
  between_taken [] there m e h = absurd (none-some m e)
  between_taken (c ∷ cs) [] m e h = absurd (none-some m e)
  between_taken (c ∷ cs) (b ∷ bs) m e h = go (clash_in y c b) refl e (λ q. between_taken cs bs m q h)
    where
      go : (x : Option Clash) → clash_in y c b ≡ x → first_of x (first_clash y cs bs) ≡ Some m →
          (first_clash y cs bs ≡ Some m → freeb u cs bs ≡ false) →
          (not (any (λ (x : Rows). any (meets u x) b) c) && freeb u cs bs) ≡ false
      go None t q later = and_no (not (any (λ (x : Rows). any (meets u x) b) c)) (later q)
      go (Some x) t q later =
          let is : x ≡ m = same_Some _ _ q in
          ap (λ (d : Bool). not d && freeb u cs bs) (column_taken c b x t (rw is h))
