-- The stretches of rows that pass a test hold those rows and no others.
-- Assumes nothing.
use mathlib.Core.Path.{◌≡◌, refl, ap₂, sym, subst, ◌∙◌}
use mathlib.Core.Bool.{Bool, true, false, cond, ◌&&◌, false≢true, true≢false}
use mathlib.Core.List.{List, [], ◌∷◌}
use mathlib.Core.Logic.{◌⊎◌, inl, inr, ⊎_elim, ◌↔◌}
use Prim.Native.Nat.{ℕ, zero, suc, ◌+◌, ◌≤◌, ◌<◌}
use native.Mathlib.Omega.{arith}
use lib.Dec.{ltb, leb, eqb}
use borrow.Author.Tests.{lt-ltb, le-leb, ltb-true, leb-true, eqb-true}
use Rattle.laws.proofs.Tests.{and_left, and_right, or_cases, or_left, or_right}
use Rattle.defs.specs.Computing.Test.{any}
use Rattle.defs.specs.Computing.Cells.{Rows, join_row, stretches, in_rows}
use Rattle.geom.proofs.Strip.{lt_or_le}

-- every stretch is a stretch
unfoldable pub Valid : List Rows → Type 0
Valid [] = Unit {0}
Valid (r ∷ rs) = (r.low < r.high) × Valid rs

-- row j lies in one of them
unfoldable pub Among : List Rows → ℕ → Type 0
Among [] j = ⊥
Among (r ∷ rs) j = ((r.low ≤ j) × (j < r.high)) ⊎ Among rs j

pub no_rows : (j : ℕ) → in_rows [] j ≡ true → ⊥
unfolding in_rows any
no_rows j e = false≢true e

pub among_of : (rs : List Rows) (j : ℕ) → in_rows rs j ≡ true → Among rs j
unfolding in_rows any Among
among_of [] j e = false≢true e
among_of (r ∷ rs) j e =
    ⊎_elim (λ h. inl (leb-true _ _ (and_left (leb r.low j) _ h), ltb-true _ _ (and_right (leb r.low j) _ h)))
    (λ h. inr (among_of rs j h)) (or_cases (leb r.low j && ltb j r.high) (in_rows rs j) e)

pub of_among : (rs : List Rows) (j : ℕ) → Among rs j → in_rows rs j ≡ true
unfolding in_rows any Among
of_among [] j c = absurd c
of_among (r ∷ rs) j c =
    ⊎_elim (λ h. or_left (in_rows rs j) (ap₂ ◌&&◌ (le-leb r.low j h.0) (lt-ltb j r.high h.1)))
    (λ h. or_right (leb r.low j && ltb j r.high) (of_among rs j h)) c

join_valid : (n : ℕ) (rs : List Rows) → Valid rs → Valid (join_row n rs)
unfolding Valid join_row
join_valid n [] v = (omega arith, tt)
join_valid n (r ∷ rs) v = go (eqb r.low (n + 1)) refl
  where
    go : (b : Bool) → eqb r.low (n + 1) ≡ b →
        Valid (cond b (record { low = n; high = r.high } ∷ rs) (record { low = n; high = n + 1 } ∷ (r ∷ rs)))
    go true e = (omega (arith, eqb-true r.low (n + 1) e, v.0), v.1)
    go false e = (omega arith, v)

join_among : (n : ℕ) (rs : List Rows) → Valid rs → (j : ℕ) → Among (join_row n rs) j ↔ ((j ≡ n) ⊎ Among rs j)
unfolding Valid join_row Among
join_among n [] v j = (λ c. ⊎_elim (λ h. inl (omega (arith, h.0, h.1))) (λ z. inr z) c, λ c. ⊎_elim (λ e. inl (omega arith, omega arith)) (λ z. inr z) c)
join_among n (r ∷ rs) v j = go (eqb r.low (n + 1)) refl
  where
    go : (b : Bool) → eqb r.low (n + 1) ≡ b →
        Among (cond b (record { low = n; high = r.high } ∷ rs) (record { low = n; high = n + 1 } ∷ (r ∷ rs))) j ↔
        ((j ≡ n) ⊎ (((r.low ≤ j) × (j < r.high)) ⊎ Among rs j))
    go true e =
        let q = eqb-true r.low (n + 1) e in (
          ⊎_elim
              (λ h. ⊎_elim (λ l. inr (inl (omega arith, h.1))) (λ l. inl (omega (arith, h.0))) (lt_or_le n j))
              (λ z. inr (inr z)),
          ⊎_elim (λ p. inl (omega arith, omega (arith, v.0)))
              (⊎_elim (λ h. inl (omega (arith, h.0), h.1)) (λ z. inr z)),
        )
    go false e =
        (⊎_elim (λ h. inl (omega (arith, h.0, h.1))) inr, ⊎_elim (λ p. inl (omega arith, omega arith)) inr)

module _ (f : ℕ → Bool) where
  pub stretches_among : (n : ℕ) (rs : List Rows) → Valid rs → (j : ℕ) →
      Among (stretches f n rs) j ↔ (((j < n) × (f j ≡ true)) ⊎ Among rs j)
  unfolding stretches
  stretches_among zero rs v j = (inr, ⊎_elim (λ h. absurd (omega (arith, h.0))) (λ c. c))
  stretches_among (suc n) rs v j = go (f n) refl (λ rs v. stretches_among n rs v j)
    where
      go : (b : Bool) → f n ≡ b →
          ((rs : List Rows) → Valid rs → Among (stretches f n rs) j ↔ (((j < n) × (f j ≡ true)) ⊎ Among rs j)) →
          Among (stretches f n (cond b (join_row n rs) rs)) j ↔ (((j < suc n) × (f j ≡ true)) ⊎ Among rs j)
      go true e ih =
          let t = ih (join_row n rs) (join_valid n rs v) in
          let u = join_among n rs v j in (
            λ c.
                ⊎_elim (λ h. inl (omega (arith, h.0), h.1))
                (λ c. ⊎_elim (λ p. inl (omega arith, subst (λ (a : ℕ). f a ≡ true) (sym p) e)) inr (u.0 c)) (t.0 c),
            λ c.
                t.1
                (⊎_elim
                (λ h. ⊎_elim (λ l. inl (l, h.1)) (λ l. inr (u.1 (inl (omega (arith, h.0))))) (lt_or_le j n))
                (λ c. inr (u.1 (inr c))) c),
          )
      go false e ih =
          let t = ih rs v in (
            λ c. ⊎_elim (λ h. inl (omega (arith, h.0), h.1)) inr (t.0 c),
            λ c.
                t.1
                (⊎_elim
                (λ h. ⊎_elim (λ l. inl (l, h.1)) (λ l. absurd (differ h.0 h.1 l)) (lt_or_le j n))
                inr c),
          )
        where
          differ : j < suc n → f j ≡ true → n ≤ j → ⊥
          differ h q l =
              let p : j ≡ n = omega arith in
              true≢false (sym (subst (λ (a : ℕ). f a ≡ true) p q) ∙ e)

-- rows of the stretches below n: those that pass
pub stretches_are : (f : ℕ → Bool) (n j : ℕ) → (in_rows (stretches f n []) j ≡ true) ↔ ((j < n) × (f j ≡ true))
unfolding Valid Among
stretches_are f n j =
    let t = stretches_among f n [] tt j in
    (λ e. ⊎_elim (λ h. h) (λ z. absurd z) (t.0 (among_of _ j e)), λ h. of_among _ j (t.1 (inl h)))
