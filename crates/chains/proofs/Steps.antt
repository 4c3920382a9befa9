-- The records of a chain, step by step. A chain that ends comes to no record twice, so it has at most Q; and it has one length.
-- Assumes nothing.
use mathlib.Core.Path.{◌≡◌, refl, ap, sym, ◌∙◌}
use mathlib.Core.List.{List}
use Prim.Native.Nat.{ℕ, zero, suc, ◌+◌, ◌-◌, ◌≤◌, ◌<◌}
use native.Mathlib.Omega.{arith}
use native.Mathlib.Numerals.{add-one}
use native.Mathlib.Decide.{dec_lt}
use Rattle.defs.specs.Meaning.Strip.{columns_of, first_of, column_of, next_of}
use Rattle.laws.proofs.Pigeonhole.{pigeonhole}
use Rattle.chains.specs.Form.{rec_at, Within, ChainOf}

module _ (s : List ℕ) (c : ℕ) where
  pub start : rec_at s c 0 ≡ first_of s c
  unfolding rec_at
  start = refl

  pub step : (i : ℕ) → rec_at s c (i + 1) ≡ next_of s (rec_at s c i)
  unfolding rec_at
  step i = rw add-one

  -- equal records have equal followers
  follow : (i j d : ℕ) → rec_at s c i ≡ rec_at s c j → rec_at s c (i + d) ≡ rec_at s c (j + d)
  follow i j zero e = ap (rec_at s c) (omega arith) ∙ e ∙ ap (rec_at s c) (omega arith)
  follow i j (suc d) e = up i ∙ ap (next_of s) (follow i j d e) ∙ sym (up j)
    where
      up : (i : ℕ) → rec_at s c (i + suc d) ≡ next_of s (rec_at s c (i + d))
      up i = ap (rec_at s c) (omega arith) ∙ step (i + d)

module _ {s : List ℕ} {Q c k : ℕ} (d : ChainOf s Q c k) where
  -- followed from both places, the chain would end twice
  no_repeat : (i j : ℕ) → i < j → j < k → rec_at s c i ≡ rec_at s c j → ⊥
  no_repeat i j ij jk e = go (k - j) (omega arith)
    where
      go : (m : ℕ) → j + m ≡ k → ⊥
      go m x = omega (arith, d.within.first (i + m) (omega arith), follow s c i j m e, ap (rec_at s c) x, d.ends)

  pub same_step : (i j : ℕ) → i < k → j < k → rec_at s c i ≡ rec_at s c j → i ≡ j
  same_step i j ik jk e = go (dec_lt i j) (dec_lt j i)
    where
      go : Dec (i < j) → Dec (j < i) → i ≡ j
      go (yes l) m = absurd (no_repeat i j l jk e)
      go (no l) (yes m) = absurd (no_repeat j i m ik (sym e))
      go (no l) (no m) = omega arith

  pub chain_most : k ≤ Q
  chain_most =
      pigeonhole k Q (λ i. rec_at s c i - 1) (λ i l. omega (arith, d.within.first i l, d.within.last i l))
      (λ i j l m e. same_step i j l m (omega (arith, d.within.first i l, d.within.first j m)))

  pub chain_column : (i : ℕ) → i < k → column_of s (rec_at s c i) ≡ c
  chain_column i l = go (dec_lt c (columns_of s))
    where
      go : Dec (c < columns_of s) → column_of s (rec_at s c i) ≡ c
      go (yes h) = (d.column i l h).column
      go (no h) = let e : c ≡ columns_of s = omega (arith, d.is_one) in (d.free i l e).column ∙ sym e

  -- no walk comes past the end
  pub within_most : {n : ℕ} → Within s Q c n → n ≤ k
  within_most {n} w = go (dec_lt k n)
    where
      go : Dec (k < n) → n ≤ k
      go (yes l) = absurd (omega (arith, d.ends, w.first k l))
      go (no l) = omega arith

  pub goes_on_at : (i : ℕ) → i ≤ k → 0 < rec_at s c i → i < k
  goes_on_at i l h = go (dec_lt i k)
    where
      go : Dec (i < k) → i < k
      go (yes m) = m
      go (no m) = let e : i ≡ k = omega arith in absurd (omega (arith, ap (rec_at s c) e, d.ends))

pub chain_same : {s : List ℕ} {Q c k n : ℕ} → ChainOf s Q c k → ChainOf s Q c n → k ≡ n
chain_same d e = omega (arith, within_most d e.within, within_most e d.within)
