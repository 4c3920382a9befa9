-- Question 10 turn by turn.
-- A test of all turns below 4 is true exactly when it is true of each.
-- Assumes nothing.
use mathlib.Core.Path.{◌≡◌, refl, ap, sym, subst, ◌∙◌}
use mathlib.Core.Bool.{Bool, true, false, not, ◌&&◌, ◌||◌, and-false}
use mathlib.Core.List.{List}
use Prim.Native.Nat.{ℕ, zero, suc, ◌+◌, ◌<◌}
use native.Mathlib.Numerals.{add-one}
use native.Mathlib.Omega.{arith}
use native.Mathlib.Decide.{dec_lt}
use Rattle.laws.proofs.Tests.{and_both}
use Rattle.std.specs.Bool.{MatchBool}
use Rattle.std.specs.List.{range_with_len, AllWithin, HoldsAt}
use Rattle.std.proofs.lemmas.List.FromFn.{get_or-range_with_len}
use Rattle.defs.specs.Meaning.Turn.{turned, extent_x}
use Rattle.defs.specs.Computing.Test.{all_to}
use Rattle.defs.specs.Computing.Cells.{keeps_orderb, allowedb, ordersb}
use Rattle.checks.specs.Order.{turnb, turnsb}

pub turn_allowed : {a k : Bool} (o : List ℕ) (mask t : ℕ) → a ≡ allowedb mask t → a ≡ true →
    k ≡ keeps_orderb (turned o t) (extent_x o t) → k ≡ turnb o mask t
unfolding turnb
turn_allowed o mask t e y k = k ∙ sym (ap (λ (a : Bool). not a || keeps_orderb (turned o t) (extent_x o t)) (sym e ∙ y))

pub turn_barred : {a : Bool} (o : List ℕ) (mask t : ℕ) → a ≡ allowedb mask t → a ≡ false → true ≡ turnb o mask t
unfolding turnb
turn_barred o mask t e n = sym (ap (λ (a : Bool). not a || keeps_orderb (turned o t) (extent_x o t)) (sym e ∙ n))

-- one false test among those below n
all_fails : (f : ℕ → Bool) (n i : ℕ) → i < n → f i ≡ false → all_to f n ≡ false
unfolding all_to
all_fails f zero i l e = absurd (omega arith)
all_fails f (suc n) i l e = go (dec_lt i n) (all_fails f n i)
  where
    go : Dec (i < n) → (i < n → f i ≡ false → all_to f n ≡ false) → (f n && all_to f n) ≡ false
    go (yes u) k = rw (k u e) (and-false (f n))
    go (no u) k =
        let q : i ≡ n = omega arith in
        ap (λ (b : Bool). b && all_to f n) (subst (λ (a : ℕ). f a ≡ false) q e)

module _ (o : List ℕ) (mask : ℕ) where
  no_turn_yet : turnsb o mask 0 ≡ true
  unfolding turnsb all_to
  no_turn_yet = refl

  turns_more : (t : ℕ) → turnsb o mask t ≡ true → turnb o mask t ≡ true → turnsb o mask (t + 1) ≡ true
  unfolding turnsb all_to
  turns_more t h k = ap (all_to (turnb o mask)) (add-one t) ∙ and_both k h

  turns_end : {t : ℕ} → turnsb o mask t ≡ true → t ≡ 4 → true ≡ ordersb o mask
  unfolding turnsb turnb ordersb
  turns_end h e = sym (subst (λ (t : ℕ). turnsb o mask t ≡ true) e h)

  turn_fails : (t : ℕ) → t < 4 → turnb o mask t ≡ false → false ≡ ordersb o mask
  unfolding turnb ordersb
  turn_fails t l e = sym (all_fails _ 4 t l e)

  -- the four turns, asked one after another up to the first that fails
  pub turns_asked : (r : Bool) →
      MatchBool r (AllWithin (λ t. turnb o mask t ≡ true) (range_with_len 0 4) 0 4)
      ((k : ℕ) × (k < 4) × HoldsAt (λ t. turnb o mask t ≡ false) (range_with_len 0 4) k) → r ≡ ordersb o mask
  turns_asked true h =
      let at = λ (k : ℕ) (l : k < 4). h k 0 (omega arith) l in
      turns_end (turns_more 3 (turns_more 2 (turns_more 1 (turns_more 0 no_turn_yet (at 0 (omega arith))) (at 1 (omega arith))) (at 2 (omega arith))) (at 3 (omega arith))) refl
  turns_asked false h =
      let e : 0 + h.0 ≡ h.0 = omega arith in
      turn_fails h.0 h.1 (rw (get_or-range_with_len 0 4 h.0 0 h.1, e) at (h.2 0))
