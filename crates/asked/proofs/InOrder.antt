-- The first of 7 to 11 that gets "no": each "no" comes after "yes" to the questions before it, and where none comes the number is 0.
-- Assumes nothing.
use mathlib.Core.Path.{◌≡◌, refl, sym, ◌∙◌}
use mathlib.Core.Bool.{Bool, true, false}
use mathlib.Core.Logic.{◌≢◌}
use mathlib.Core.List.{List}
use Prim.Native.Nat.{ℕ, ◌<◌}
use native.Mathlib.Omega.{arith}
use Rattle.defs.specs.Computing.Test.{ask}
use Rattle.defs.specs.Computing.Cells.{ordersb}
use Rattle.defs.specs.Computing.Calls.{q7b, q8b, q11b, outline_no}
use Rattle.checks.specs.Says.{bounds_no}
use Rattle.checks.proofs.Bounded.{passed, first_no_lem}
use Rattle.asked.specs.Answers.{SomeCell, order_no, FirstNo}

abbrev to10 : Bool → Bool → Bool → Bool → ℕ
to10 a b c d = ask a 7 λ _. ask b 8 λ _. ask c 9 λ _. ask d 10 λ _. 0

module _ (o : List ℕ) (ninth : Bool) (mask : ℕ) where
  -- 7 or 8 gets "no", or neither does
  pub no_bounds : {n : ℕ} → n ≡ bounds_no o → 0 < n → n ≡ order_no o ninth mask
  unfolding order_no
  no_bounds e l = first_no_lem o (λ n. n) (ask ninth 9 λ _. ask (ordersb o mask) 10 λ _. 0) e l

  module _ (none : bounds_no o ≡ 0) where
    pub no_9 : ninth ≡ false → 9 ≡ order_no o ninth mask
    unfolding order_no
    no_9 n = let p = passed o none in rw (p.0, p.1, n) refl

    module _ (n : ninth ≡ true) where
      pub no_10 : ordersb o mask ≡ false → 10 ≡ order_no o ninth mask
      unfolding order_no
      no_10 d = let p = passed o none in rw (p.0, p.1, n, d) refl

      pub none_to_10 : ordersb o mask ≡ true → order_no o ninth mask ≡ 0
      unfolding order_no
      none_to_10 d = let p = passed o none in rw (p.0, p.1, n, d) refl

  -- what none of 7 to 10 says
  pub record Ordered : Type 0 where
    pub seven : q7b o ≡ true
    pub eight : q8b o ≡ true
    pub nine : ninth ≡ true
    pub ten : ordersb o mask ≡ true

  pub ordered : order_no o ninth mask ≡ 0 → Ordered
  unfolding order_no
  ordered z = go (q7b o) refl (q8b o) refl ninth refl (ordersb o mask) refl z
    where
      go : (a : Bool) → q7b o ≡ a → (b : Bool) → q8b o ≡ b → (c : Bool) → ninth ≡ c → (d : Bool) → ordersb o mask ≡ d →
          to10 a b c d ≡ 0 → Ordered
      go false p b q c r d s f = absurd (omega arith)
      go true p false q c r d s f = absurd (omega arith)
      go true p true q false r d s f = absurd (omega arith)
      go true p true q true r false s f = absurd (omega arith)
      go true p true q true r true s f = record { seven = p; eight = q; nine = r; ten = s }

  -- a "no" of 7 to 10 is the first of 7 to 11
  pub some_no : {r : ℕ} → r ≡ order_no o ninth mask → 0 < r → FirstNo o ninth mask r
  unfolding order_no outline_no
  some_no e n = record { every = λ R Rpos. e ∙ go R (q7b o) (q8b o) ninth (ordersb o mask) (λ z. omega (arith, e, z, n)) }
    where
      go : (R : ℕ) (a b c d : Bool) → to10 a b c d ≢ 0 →
          to10 a b c d ≡ (ask a 7 λ _. ask b 8 λ _. ask c 9 λ _. ask d 10 λ _. ask (q11b o mask R) 11 λ _. 0)
      go R false b c d l = refl
      go R true false c d l = refl
      go R true true false d l = refl
      go R true true true false l = refl
      go R true true true true l = absurd (l refl)

  module _ (y : Ordered) where
    pub no_11 : {r : Bool} → SomeCell o mask r → r ≡ false → FirstNo o ninth mask 11
    unfolding outline_no
    no_11 e n = record { every = λ R Rpos. rw (y.seven, y.eight, y.nine, y.ten, sym (e.every R Rpos) ∙ n) refl }

    pub no_no : {r : Bool} → SomeCell o mask r → r ≡ true → FirstNo o ninth mask 0
    unfolding outline_no
    no_no e n = record { every = λ R Rpos. rw (y.seven, y.eight, y.nine, y.ten, sym (e.every R Rpos) ∙ n) refl }
