-- Slabs of any width: the rows met in a slab are those met in its unit columns.
-- Assumes nothing.
use mathlib.Core.Path.{◌≡◌, refl, ap, sym, subst, ◌∙◌}
use mathlib.Core.Bool.{Bool, true, false, not, ◌&&◌}
use mathlib.Core.Logic.{◌⊎◌, inl, inr, ⊎_elim}
use Prim.Native.Nat.{ℕ, zero, suc, ◌+◌, ◌*◌, ◌-◌, ◌%◌, ◌≤◌, ◌<◌}
use native.Mathlib.Omega.{arith}
use native.Mathlib.Numerals.{add-one}
use native.Mathlib.Nat.{mul-pos, mul-le-mul_left, mul-le-mul_right, mul-lt-mul_of_pos_left, lt_of_mul-lt-mul_right, lt_of_mul-lt-mul_left, le_of_mul-le-mul_right}
use lib.Dec.{ltb}
use borrow.Author.Tests.{lt-ltb, le-ltb}
use Rattle.geom.proofs.Strip.{lt_or_le}
use Rattle.geom.proofs.Parity.{count_same}
use Rattle.geom.proofs.Column.{clash, Met, mid, rank, lower_at, mid_of, sides_of}

-- Two heights over L units: a unit in which the first is below x and the second above y.
pub record Unit_of (a b : ℕ → ℕ) (x y L : ℕ) : Type 0 where
  pub v : ℕ
  pub here : v < L
  pub low : (a v < x) ⊎ (a (v + 1) < x)
  pub high : (y < b v) ⊎ (y < b (v + 1))

module _ (a b : ℕ → ℕ) (x y L : ℕ) (under : (v : ℕ) → v ≤ L → b v ≤ y → a v < x) where
  -- from the left, where the second is above y and the first not below x
  down : y < b 0 → x ≤ a 0 → (m : ℕ) → m ≤ L → Unit_of a b x y L ⊎ ((y < b m) × (x ≤ a m))
  down h k zero l = inr (h, k)
  down h k (suc m) l = ⊎_elim inl (λ p. step p.0 p.1) (down h k m (omega arith))
    where
      step : y < b m → x ≤ a m → Unit_of a b x y L ⊎ ((y < b (suc m)) × (x ≤ a (suc m)))
      step p q =
          ⊎_elim
          (λ r. inl (record { v = m; here = omega arith; low = inr (subst (λ (n : ℕ). a n < x) (sym (add-one m)) r); high = inl p }))
          (λ r.
          ⊎_elim (λ s. inr (s, r)) (λ s. absurd (omega (arith, under (suc m) l s))) (lt_or_le y (b (suc m))))
          (lt_or_le (a (suc m)) x)

  -- from the left, where the second is not above y
  up : b 0 ≤ y → (m : ℕ) → m ≤ L → Unit_of a b x y L ⊎ (b m ≤ y)
  up h zero l = inr h
  up h (suc m) l = ⊎_elim inl step (up h m (omega arith))
    where
      step : b m ≤ y → Unit_of a b x y L ⊎ (b (suc m) ≤ y)
      step q =
          ⊎_elim
          (λ r.
          inl
          (record {
            v = m;
            here = omega arith;
            low = inl (under m (omega arith) q);
            high = inr (subst (λ (n : ℕ). y < b n) (sym (add-one m)) r);
          }))
          inr (lt_or_le y (b (suc m)))

  pub unit_of : 0 < L → (a 0 < x) ⊎ (a L < x) → (y < b 0) ⊎ (y < b L) → Unit_of a b x y L
  unit_of lp lo hi =
      ⊎_elim
      (λ h.
      ⊎_elim (λ k. record { v = 0; here = lp; low = inl k; high = inl h })
      (λ k.
      ⊎_elim (λ u. u) (λ p. ⊎_elim (λ c. absurd (omega arith)) (λ c. absurd (omega (arith, p.1))) lo) (down h k L (omega arith)))
      (lt_or_le (a 0) x))
      (λ h. ⊎_elim (λ u. u) (λ p. ⊎_elim (λ c. absurd (omega arith)) (λ c. absurd (omega arith)) hi) (up h L (omega arith)))
      (lt_or_le y (b 0))

scaled : (a b p q x y L : ℕ) → 0 < L → L * a ≡ p → L * b ≡ q → a * y < b * x → p * y < q * x
scaled a b p q x y L lp e f h =
    omega (arith, ap (λ (n : ℕ). n * y) e, ap (λ (n : ℕ). n * x) f, mul-lt-mul_of_pos_left h lp)

unscaled : (a b p q x y L : ℕ) → L * a ≡ p → L * b ≡ q → p * y < q * x → a * y < b * x
unscaled a b p q x y L e f h =
    lt_of_mul-lt-mul_left L (omega (arith, ap (λ (n : ℕ). n * y) e, ap (λ (n : ℕ). n * x) f))

-- Heights H k of n edges at the sides k = 0 .. L of a slab's L unit columns: each edge is a line.
module _
    (n : ℕ)
    (S : ℕ → Bool)
    (H : ℕ → ℕ → ℕ)
    (W : ℕ → ℕ)
    (L : ℕ)
    (pos : (i : ℕ) → S i ≡ true → 0 < W i)
    (line : (i u v : ℕ) → S i ≡ true → u + v ≡ L → L * H v i ≡ u * H 0 i + v * H L i)
    (ord : (i j : ℕ) → S i ≡ true → S j ≡ true → H 0 i * W j < H 0 j * W i → H L j * W i < H L i * W j → ⊥)
  where
    -- not higher at both sides: not higher between
    mean_le : (i j v : ℕ) → S i ≡ true → S j ≡ true → 0 < L → v ≤ L → H 0 i * W j ≤ H 0 j * W i → H L i * W j ≤ H L j * W i → H v i * W j ≤ H v j * W i
    mean_le i j v si sj lp vl a b = go (L - v) (omega arith)
      where
        go : (u : ℕ) → u + v ≡ L → H v i * W j ≤ H v j * W i
        go u e =
            le_of_mul-le-mul_right
            (omega (arith, ap (λ (x : ℕ). x * W j) (line i u v si e), ap (λ (x : ℕ). x * W i) (line j u v sj e), mul-le-mul_left u a, mul-le-mul_left v b)) lp

    -- the middle of a unit column
    middle : (i u v : ℕ) → S i ≡ true → u + (v + 1) ≡ L →
        L * (H v i + H (v + 1) i) ≡ (u + (u + 1)) * H 0 i + (v + (v + 1)) * H L i
    middle i u v si e = omega (arith, line i (u + 1) v si (omega arith), line i u (v + 1) si e)

    -- a strict order at one place inside is the order of the slab
    mid_inside : (i j v : ℕ) → S i ≡ true → S j ≡ true → v < L → (H v i + H (v + 1) i) * W j < (H v j + H (v + 1) j) * W i →
        mid n S (H 0) (H L) W pos ord i j ≡ true
    mid_inside i j v si sj l h = go (L - (v + 1)) (omega arith)
      where
        go : (u : ℕ) → u + (v + 1) ≡ L → mid n S (H 0) (H L) W pos ord i j ≡ true
        go u e =
            mid_of n S (H 0) (H L) W pos ord i j (u + (u + 1)) (v + (v + 1)) si sj
            (scaled (H v i + H (v + 1) i) (H v j + H (v + 1) j) _ _ (W i) (W j) L (omega arith) (middle i u v si e) (middle j u v sj e) h)

    inside_mid : (i j v : ℕ) → S i ≡ true → S j ≡ true → v < L → mid n S (H 0) (H L) W pos ord i j ≡ true →
        (H v i + H (v + 1) i) * W j < (H v j + H (v + 1) j) * W i
    inside_mid i j v si sj l h = go (L - (v + 1)) (omega arith)
      where
        go : (u : ℕ) → u + (v + 1) ≡ L → (H v i + H (v + 1) i) * W j < (H v j + H (v + 1) j) * W i
        go u e =
            unscaled (H v i + H (v + 1) i) (H v j + H (v + 1) j) _ _ (W i) (W j) L (middle i u v si e) (middle j u v sj e)
            (lower_at n S (H 0) (H L) W pos ord i j (u + (u + 1)) (v + (v + 1)) (omega arith) (omega arith) si sj h)

    -- unit column v of the slab has the slab's order
    same_mid : (i j v : ℕ) → S i ≡ true → S j ≡ true → v < L →
        ltb ((H v i + H (v + 1) i) * W j) ((H v j + H (v + 1) j) * W i) ≡ mid n S (H 0) (H L) W pos ord i j
    same_mid i j v si sj l = go (mid n S (H 0) (H L) W pos ord i j) refl
      where
        go : (b : Bool) → mid n S (H 0) (H L) W pos ord i j ≡ b → ltb ((H v i + H (v + 1) i) * W j) ((H v j + H (v + 1) j) * W i) ≡ b
        go true q = lt-ltb _ _ (inside_mid i j v si sj l q)
        go false q =
            ⊎_elim (λ h. clash (mid_inside i j v si sj l h) q) (λ h. le-ltb _ _ h)
            (lt_or_le ((H v i + H (v + 1) i) * W j) ((H v j + H (v + 1) j) * W i))

    module _ (v : ℕ) (l : v < L) (ordv : (i j : ℕ) → S i ≡ true → S j ≡ true → H v i * W j < H v j * W i → H (v + 1) j * W i < H (v + 1) i * W j → ⊥) where
      same_rank : (a : ℕ) → S a ≡ true → rank n S (H v) (H (v + 1)) W pos ordv a ≡ rank n S (H 0) (H L) W pos ord a
      same_rank a sa = count_same _ _ n (λ g gl. go g (S g) refl)
        where
          go : (g : ℕ) (b : Bool) → S g ≡ b →
              (b && not (mid n S (H v) (H (v + 1)) W pos ordv a g)) ≡ (b && not (mid n S (H 0) (H L) W pos ord a g))
          go g true e = ap not (same_mid a g v sa e l)
          go g false e = refl

      -- a row met in the unit column is met in the slab
      pub unit_slab : (j : ℕ) → Met n S (H v) (H (v + 1)) W pos ordv j → Met n S (H 0) (H L) W pos ord j
      unit_slab j t =
          record {
            a = t.a;
            b = t.b;
            a_edge = t.a_edge;
            b_edge = t.b_edge;
            odd = ap (λ (c : ℕ). c % 2) (sym (same_rank t.a t.a_edge)) ∙ t.odd;
            upper = sym (same_mid t.a t.b v t.a_edge t.b_edge l) ∙ t.upper;
            next = λ g gl sg m. sym (same_mid g t.b v sg t.b_edge l) ∙ t.next g gl sg (same_mid t.a g v t.a_edge sg l ∙ m);
            low = ⊎_elim (λ h. low_of v (omega arith) h) (λ h. low_of (v + 1) (omega arith) h) t.low;
            high = ⊎_elim (λ h. high_of v (omega arith) h) (λ h. high_of (v + 1) (omega arith) h) t.high;
          }
        where
          lpos : 0 < L
          lpos = omega arith

          low_of : (x : ℕ) → x ≤ L → H x t.a < (j + 1) * W t.a → (H 0 t.a < (j + 1) * W t.a) ⊎ (H L t.a < (j + 1) * W t.a)
          low_of x xl h =
              ⊎_elim inl
              (λ p.
              ⊎_elim inr (λ q. absurd (go (L - x) (omega arith) p q)) (lt_or_le (H L t.a) ((j + 1) * W t.a)))
              (lt_or_le (H 0 t.a) ((j + 1) * W t.a))
            where
              go : (u : ℕ) → u + x ≡ L → (j + 1) * W t.a ≤ H 0 t.a → (j + 1) * W t.a ≤ H L t.a → ⊥
              go u e p q =
                  omega (arith, line t.a u x t.a_edge e, mul-le-mul_left u p, mul-le-mul_left x q, mul-lt-mul_of_pos_left h lpos, ap (λ (n : ℕ). n * ((j + 1) * W t.a)) e)

          high_of : (x : ℕ) → x ≤ L → j * W t.b < H x t.b → (j * W t.b < H 0 t.b) ⊎ (j * W t.b < H L t.b)
          high_of x xl h =
              ⊎_elim inl
              (λ p.
              ⊎_elim inr (λ q. absurd (go (L - x) (omega arith) p q)) (lt_or_le (j * W t.b) (H L t.b)))
              (lt_or_le (j * W t.b) (H 0 t.b))
            where
              go : (u : ℕ) → u + x ≡ L → H 0 t.b ≤ j * W t.b → H L t.b ≤ j * W t.b → ⊥
              go u e p q =
                  omega (arith, line t.b u x t.b_edge e, mul-le-mul_left u p, mul-le-mul_left x q, mul-lt-mul_of_pos_left h lpos, ap (λ (n : ℕ). n * (j * W t.b)) e)

      -- and back, where the column's part of the two edges meets the row
      pub slab_unit : (j : ℕ) (t : Met n S (H 0) (H L) W pos ord j) →
          (H v t.a < (j + 1) * W t.a) ⊎ (H (v + 1) t.a < (j + 1) * W t.a) →
          (j * W t.b < H v t.b) ⊎ (j * W t.b < H (v + 1) t.b) → Met n S (H v) (H (v + 1)) W pos ordv j
      slab_unit j t lo hi =
          record {
            a = t.a;
            b = t.b;
            a_edge = t.a_edge;
            b_edge = t.b_edge;
            odd = ap (λ (c : ℕ). c % 2) (same_rank t.a t.a_edge) ∙ t.odd;
            upper = same_mid t.a t.b v t.a_edge t.b_edge l ∙ t.upper;
            next = λ g gl sg m. same_mid g t.b v sg t.b_edge l ∙ t.next g gl sg (sym (same_mid t.a g v t.a_edge sg l) ∙ m);
            low = lo;
            high = hi;
          }

    -- the unit column in which a row met in the slab is met
    pub place : 0 < L → (j : ℕ) (t : Met n S (H 0) (H L) W pos ord j) →
        Unit_of (λ v. H v t.a) (λ v. H v t.b) ((j + 1) * W t.a) (j * W t.b) L
    place lp j t = unit_of (λ v. H v t.a) (λ v. H v t.b) ((j + 1) * W t.a) (j * W t.b) L under lp t.low t.high
      where
        below : (v : ℕ) → v ≤ L → H v t.a * W t.b ≤ H v t.b * W t.a
        below v vl =
            let s = sides_of n S (H 0) (H L) W pos ord t.a t.b t.a_edge t.b_edge t.upper in
            mean_le t.a t.b v t.a_edge t.b_edge lp vl s.0 s.1

        -- where the upper edge is not above the row's foot, the lower one is below its top
        under : (v : ℕ) → v ≤ L → H v t.b ≤ j * W t.b → H v t.a < (j + 1) * W t.a
        under v vl h =
            lt_of_mul-lt-mul_right (W t.b)
            (omega (arith, below v vl, mul-le-mul_right (W t.a) h, mul-pos (pos t.a t.a_edge) (pos t.b t.b_edge)))
