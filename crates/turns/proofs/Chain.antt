-- Two counts over the edges of a closed outline are odd or even together, if each edge adds to one of them alone exactly where a test
-- of the vertices changes.
-- Assumes nothing.
use mathlib.Core.Path.{◌≡◌, refl, ap, ◌∙◌}
use mathlib.Core.Bool.{Bool, true, false, xor}
use Prim.Native.Nat.{ℕ, zero, suc, ◌+◌, ◌%◌, ◌<◌}
use native.Mathlib.Omega.{arith}
use Rattle.defs.specs.Meaning.Outline.{one, count_to, after}
use Rattle.geom.proofs.Parity.{after_last, after_inner}

pub count_none : (f : ℕ → Bool) (n : ℕ) → ((i : ℕ) → i < n → f i ≡ false) → count_to f n ≡ 0
unfolding count_to
count_none f zero h = refl
count_none f (suc n) h = rw (h n (omega arith), count_none f n (λ i l. h i (omega arith)))

-- one of two tests alone
xor_odd : (a b : Bool) → one (xor a b) % 2 ≡ (one a + one b) % 2
unfolding xor
xor_odd true true = refl
xor_odd true false = refl
xor_odd false true = refl
xor_odd false false = refl

module _ (s f g : ℕ → Bool) where
  -- edge i adds to one of the counts alone where the test of the vertices i and j differs
  abbrev Step : ℕ → ℕ → Type 0
  Step i j = xor (f i) (g i) ≡ xor (s i) (s j)

  step_odd : (i j : ℕ) → Step i j → (one (f i) + one (g i)) % 2 ≡ (one (s i) + one (s j)) % 2
  step_odd i j e = omega (arith, xor_odd (f i) (g i), xor_odd (s i) (s j), ap one e)

  row : (n : ℕ) → ((i : ℕ) → i < n → Step i (suc i)) → (count_to f n + count_to g n) % 2 ≡ (one (s 0) + one (s n)) % 2
  unfolding count_to
  row zero h = omega arith
  row (suc n) h = omega (arith, row n (λ i l. h i (omega arith)), step_odd n (suc n) (h n (omega arith)))

  pub closed : (n : ℕ) → 0 < n → ((i : ℕ) → i < n → Step i (after n i)) → (count_to f n + count_to g n) % 2 ≡ 0
  unfolding count_to
  closed zero l h = absurd (omega arith)
  closed (suc n) l h =
      omega (
        arith,
        row n (λ i k. h i (omega arith) ∙ ap (λ (j : ℕ). xor (s i) (s j)) (after_inner n i k)),
        step_odd n 0 (h n (omega arith) ∙ ap (λ (j : ℕ). xor (s n) (s j)) (after_last n)),
      )
