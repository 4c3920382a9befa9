-- A walk along a chain: what is left of it decides the whole. So a loop that follows a chain has as its invariant that the answer for
-- the whole chain is the answer for what is left, and each way out of the loop is one law.
-- Assumes nothing.
use mathlib.Core.Path.{◌≡◌, refl, ap, ◌∙◌}
use mathlib.Core.Bool.{true, false}
use mathlib.Core.List.{List, [], ◌∷◌}
use Prim.Native.Nat.{ℕ, zero, suc, ◌+◌, ◌-◌, ◌≤◌, ◌<◌}
use native.Mathlib.Omega.{arith}
use lib.ListN.{length}
use borrow.Author.Tests.{le-leb, lt-leb}
use Rattle.defs.specs.Meaning.Sheet.{Chain, link}
use Rattle.defs.specs.Computing.Test.{chain_by, ends_by}
use Rattle.laws.proofs.Tests.{pos_not_zero}
use Rattle.laws.proofs.Walks.{chain_zero, chain_step, chain_few, zero_ends_by}
use Rattle.laws.proofs.SheetChains.{chain_of_lem, chain_is}

-- one step of the test, as an equation; and where it fails
module _ (next : ℕ → ℕ) (most : ℕ) where
  pub ends_next : (n r : ℕ) → 0 < r → r ≤ most → ends_by next most (suc n) r ≡ ends_by next most n (next r)
  unfolding ends_by
  ends_next n r p q = rw (pos_not_zero r p, le-leb r most q)

  pub ends_none : (r : ℕ) → 0 < r → ends_by next most 0 r ≡ false
  unfolding ends_by
  ends_none r p = pos_not_zero r p

  pub ends_past : (n r : ℕ) → 0 < r → most < r → ends_by next most n r ≡ false
  unfolding ends_by
  ends_past zero r p q = pos_not_zero r p
  ends_past (suc n) r p q = rw (pos_not_zero r p, lt-leb r most q)

-- a chain that ends within n is the same with more room
pub chain_more : (next : ℕ → ℕ) (most n r : ℕ) → ends_by next most n r ≡ true → chain_by next (suc n) r ≡ chain_by next n r
chain_more next most n r e = chain_is (suc n) (chain_of_lem next most n r e) (omega (arith, chain_few next n r))

-- a record before a chain, its next given by an equation
pub linked : (next : ℕ → ℕ) {most r n : ℕ} {rs : List ℕ} → 0 < r → r ≤ most → next r ≡ n → Chain next most n rs →
    Chain next most r (r ∷ rs)
linked next {rs = rs} p q e c = link {rs = rs} p q (rw e c)

-- the chain from r ends in zero after k records, at most n, all of them 1 to `most`
pub record Ends (next : ℕ → ℕ) (most n r k : ℕ) : Type 0 where
  pub ends : ends_by next most n r ≡ true
  pub long : length (chain_by next n r) ≡ k

pub record Ill (next : ℕ → ℕ) (most n r : ℕ) : Type 0 where
  pub ill : ends_by next most n r ≡ false

-- `left` of the n records are not walked yet, and the next one is `at`
pub record Walk (next : ℕ → ℕ) (most n r at left : ℕ) : Type 0 where
  pub few : left ≤ n
  pub ends : ends_by next most n r ≡ ends_by next most left at
  pub long : length (chain_by next n r) + left ≡ n + length (chain_by next left at)

module _ {next : ℕ → ℕ} {most n r : ℕ} where
  pub walk_start : {at : ℕ} → at ≡ r → Walk next most n r at n
  walk_start e = rw e (record { few = omega arith; ends = refl; long = omega arith })

  pub walk_next : {at at' left left' : ℕ} → Walk next most n r at left → 0 < at → at ≤ most → left ≡ left' + 1 → at' ≡ next at →
      Walk next most n r at' left'
  walk_next {at} {at'} {left} {left'} w p q l e =
      let x : left ≡ suc left' = omega arith in
      let y : chain_by next left at ≡ at ∷ chain_by next left' (next at) = rw x (chain_step next left' at p) in
      rw e (record {
        few = omega (arith, w.few);
        ends = w.ends ∙ rw x (ends_next next most left' at p q);
        long = omega (arith, w.long, ap length y);
      })

  pub walk_long : {at left : ℕ} → Walk next most n r at left → 0 < at → left ≡ 0 → Ill next most n r
  walk_long w p e = record { ill = w.ends ∙ rw e (ends_none next most _ p) }

  pub walk_past : {at left : ℕ} → Walk next most n r at left → 0 < at → most < at → Ill next most n r
  walk_past w p q = record { ill = w.ends ∙ ends_past next most _ _ p q }

  pub walk_end : {at left : ℕ} → Walk next most n r at left → at ≡ 0 → Ends next most n r (n - left)
  walk_end {at} {left} w e =
      let y : chain_by next left at ≡ [] = rw e (chain_zero next left) in
      record {
        ends = w.ends ∙ rw e (zero_ends_by next most left);
        long = omega (arith, w.few, w.long, ap length y);
      }
