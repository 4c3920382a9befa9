-- Entries sorted at both sides of a slab: the rows of its gaps lie between the two of each pair, since the edges below a gap are odd in number.
-- Edges that are level count alike from below, whichever of them the gap is told by.
-- Assumes nothing.
use mathlib.Core.Path.{◌≡◌, refl, ap, sym, subst, ◌∙◌}
use mathlib.Core.Bool.{Bool, true, false, not}
use mathlib.Core.Logic.{inl, inr, ⊎_elim}
use mathlib.Core.List.{List}
use Prim.Native.Nat.{ℕ, zero, suc, ◌+◌, ◌*◌, ◌-◌, ◌/◌, ◌%◌, ◌≤◌, ◌<◌, min, max}
use native.Mathlib.Omega.{arith}
use native.Mathlib.Nat.{mul-le-mul_right, mul-lt-mul_of_pos_right, lt_of_mul-lt-mul_right}
use lib.ListN.{get_or}
use borrow.Author.Tests.{lt-ltb, le-ltb, ltb-true, ltb-false}
use Rattle.defs.specs.Meaning.Outline.{one, count_to}
use Rattle.geom.proofs.Strip.{lt_or_le}
use Rattle.geom.proofs.Rows.{low_row, row_low}
use Rattle.geom.proofs.Column.{clash}
use Rattle.entries.specs.Edges.{Fit, upper, Rising}
use Rattle.gaps.specs.Gaps.{Between, Paired}

-- how many of the first m entries are not higher than entry x
unfoldable pub not_upper : List ℕ → List ℕ → List ℕ → ℕ → ℕ → ℕ
not_upper h0 h1 w x m = count_to (λ y. not (upper h0 h1 w x y)) m

-- row y lies between entry x and the entries higher than it, and an odd number of entries is not higher than x
pub record Gap (h0 h1 w : List ℕ) (m x y : ℕ) : Type 0 where
  pub here : x < m
  pub odd : not_upper h0 h1 w x m % 2 ≡ 1
  pub low : min (get_or h0 x 0) (get_or h1 x 0) / get_or w x 0 ≤ y
  pub row : y < 16000
  pub high : (g : ℕ) → g < m → upper h0 h1 w x g ≡ true → y * get_or w g 0 < max (get_or h0 g 0) (get_or h1 g 0)

-- a/b < c/d ≤ e/f, and a/b ≤ c/d < e/f
frac_lt_le : (a b c d e f : ℕ) → 0 < f → a * d < c * b → c * f ≤ e * d → a * f < e * b
frac_lt_le a b c d e f fp h k =
    lt_of_mul-lt-mul_right d (omega (arith, mul-lt-mul_of_pos_right h fp, mul-le-mul_right b k))

frac_le_lt : (a b c d e f : ℕ) → 0 < b → a * d ≤ c * b → c * f < e * d → a * f < e * b
frac_le_lt a b c d e f bp h k =
    lt_of_mul-lt-mul_right d (omega (arith, mul-le-mul_right f h, mul-lt-mul_of_pos_right k bp))

-- a test that holds up to some place, and not from there on
record Boundary (f : ℕ → Bool) (m : ℕ) : Type 0 where
  k : ℕ
  most : k ≤ m
  holds : (x : ℕ) → x < k → f x ≡ true
  fails : (x : ℕ) → k ≤ x → x < m → f x ≡ false

boundary : (f : ℕ → Bool) (m : ℕ) → ((x y : ℕ) → x ≤ y → y < m → f y ≡ true → f x ≡ true) → Boundary f m
boundary f zero h =
    record { k = 0; most = omega arith; holds = λ x l. absurd (omega arith); fails = λ x l k. absurd (omega arith) }
boundary f (suc m) h = go (f m) refl (boundary f m (λ x y l k. h x y l (omega arith)))
  where
    go : (b : Bool) → f m ≡ b → Boundary f m → Boundary f (suc m)
    go true e b = record { k = suc m; most = omega arith; holds = λ x l. h x m (omega arith) (omega arith) e; fails = λ x l k. absurd (omega arith) }
    go false e b =
        record {
          k = b.k;
          most = omega (arith, b.most);
          holds = b.holds;
          fails = λ x l k.
              ⊎_elim (λ n. b.fails x l n) (λ n. let q : x ≡ m = omega arith in ap f q ∙ e) (lt_or_le x m);
        }

-- so it holds at as many places
pub count_boundary : (f : ℕ → Bool) (k m : ℕ) → k ≤ m → ((x : ℕ) → x < k → f x ≡ true) → ((x : ℕ) → k ≤ x → x < m → f x ≡ false) → count_to f m ≡ k
unfolding count_to
count_boundary f k zero l holds fails = omega arith
count_boundary f k (suc m) l holds fails =
    ⊎_elim
    (λ q.
    let e : k ≡ suc m = omega arith in
    omega (arith, count_boundary f m m (omega arith) (λ x n. holds x (omega arith)) (λ x n p. absurd (omega arith)), ap one (holds m (omega arith))))
    (λ q.
    omega (arith, count_boundary f k m q holds (λ x n p. fails x n (omega arith)), ap one (fails m q (omega arith))))
    (lt_or_le m k)

module _ {h0 h1 w : List ℕ} {m : ℕ} (fits : (x : ℕ) → x < m → Fit h0 h1 w x) (r0 : Rising h0 w m) (r1 : Rising h1 w m) where
  -- at the left, at the right and in the middle no entry is above a later one
  level : (h : List ℕ) → Rising h w m → (x y : ℕ) → x ≤ y → y < m → get_or h x 0 * get_or w y 0 ≤ get_or h y 0 * get_or w x 0
  level h r x y l k =
      ⊎_elim (λ n. r.order x y n k)
      (λ n. let e : x ≡ y = omega arith in subst (λ (n : ℕ). get_or h x 0 * get_or w n 0 ≤ get_or h n 0 * get_or w x 0) e (omega arith)) (lt_or_le x y)

  middle : (x y : ℕ) → x ≤ y → y < m → (get_or h0 x 0 + get_or h1 x 0) * get_or w y 0 ≤ (get_or h0 y 0 + get_or h1 y 0) * get_or w x 0
  middle x y l k = omega (arith, level h0 r0 x y l k, level h1 r1 x y l k)

  not_upper_lem : (x y : ℕ) → x ≤ y → y < m → upper h0 h1 w y x ≡ false
  not_upper_lem x y l k =
      le-ltb ((get_or h0 y 0 + get_or h1 y 0) * get_or w x 0) ((get_or h0 x 0 + get_or h1 x 0) * get_or w y 0) (middle x y l k)

  upper_on : (x y z : ℕ) → upper h0 h1 w x y ≡ true → y ≤ z → z < m → upper h0 h1 w x z ≡ true
  upper_on x y z u l k =
      lt-ltb ((get_or h0 x 0 + get_or h1 x 0) * get_or w z 0) ((get_or h0 z 0 + get_or h1 z 0) * get_or w x 0)
      (frac_lt_le (get_or h0 x 0 + get_or h1 x 0) (get_or w x 0) (get_or h0 y 0 + get_or h1 y 0) (get_or w y 0) (get_or h0 z 0 + get_or h1 z 0) (get_or w z 0) (fits z k).some
      (ltb-true ((get_or h0 x 0 + get_or h1 x 0) * get_or w y 0) ((get_or h0 y 0 + get_or h1 y 0) * get_or w x 0) u) (middle y z l k))

  -- a pair is a gap: entries up to x are not higher than x, and those from x + 1 on are
  pub pair_gap : (x y : ℕ) → x % 2 ≡ 0 → x + 1 < m → Between h0 h1 w x y → Gap h0 h1 w m x y
  unfolding not_upper
  pair_gap x y even l b =
      record {
        here = omega arith;
        odd =
            ap (λ (c : ℕ). c % 2)
            (count_boundary (λ g. not (upper h0 h1 w x g)) (x + 1) m (omega arith) (λ g n. ap not (not_upper_lem g x (omega arith) (omega arith)))
            (λ g n k. ap not (upper_on x (x + 1) g b.apart n k)))
            ∙ omega arith;
        low = b.low;
        row = b.row;
        high = λ g k u.
            ⊎_elim (λ n. clash u (not_upper_lem g x (omega arith) (omega arith)))
            (λ n. rises (get_or h0 (x + 1) 0) (get_or h1 (x + 1) 0) (get_or w (x + 1) 0) (get_or h0 g 0) (get_or h1 g 0) (get_or w g 0) (fits g k).some
            (level h0 r0 (x + 1) g n k) (level h1 r1 (x + 1) g n k) b.high)
            (lt_or_le g (x + 1));
      }
    where
      rises : (p q d p' q' d' : ℕ) → 0 < d' → p * d' ≤ p' * d → q * d' ≤ q' * d → y * d < max p q → y * d' < max p' q'
      rises p q d p' q' d' dp a b h =
          ⊎_elim (λ n. let z = frac_lt_le y 1 p d p' d' dp (omega arith) a in omega arith)
          (λ n. let z = frac_lt_le y 1 q d q' d' dp (omega arith) b in omega arith) (lt_or_le (y * d) p)

  -- the lowest place of entry x is that of a later one in the middle not higher
  same_low : (x k y : ℕ) → x ≤ k → k < m → upper h0 h1 w x k ≡ false → min (get_or h0 x 0) (get_or h1 x 0) / get_or w x 0 ≤ y →
      min (get_or h0 k 0) (get_or h1 k 0) / get_or w k 0 ≤ y
  same_low x k y l km u low =
      low_row (get_or h0 k 0) (get_or h1 k 0) (get_or w k 0) y (fits k km).some
      (⊎_elim (λ h. inl (tied (get_or h0 x 0) (get_or h0 k 0) (omega (arith, left, right, mid)) h)) (λ h. inr (tied (get_or h1 x 0) (get_or h1 k 0) (omega (arith, left, right, mid)) h))
      (row_low (get_or h0 x 0) (get_or h1 x 0) (get_or w x 0) y (fits x (omega arith)).some low))
    where
      left : get_or h0 x 0 * get_or w k 0 ≤ get_or h0 k 0 * get_or w x 0
      left = level h0 r0 x k l km

      right : get_or h1 x 0 * get_or w k 0 ≤ get_or h1 k 0 * get_or w x 0
      right = level h1 r1 x k l km

      mid : (get_or h0 k 0 + get_or h1 k 0) * get_or w x 0 ≤ (get_or h0 x 0 + get_or h1 x 0) * get_or w k 0
      mid = ltb-false ((get_or h0 x 0 + get_or h1 x 0) * get_or w k 0) ((get_or h0 k 0 + get_or h1 k 0) * get_or w x 0) u

      tied : (p q : ℕ) → q * get_or w x 0 ≤ p * get_or w k 0 → p < (y + 1) * get_or w x 0 → q < (y + 1) * get_or w k 0
      tied p q h n =
          let z =
          frac_le_lt q (get_or w k 0) p (get_or w x 0) (y + 1) 1 (fits k km).some h (omega arith)
          in
          omega arith

  -- a gap is a pair: its lower entry is the last of those not higher than x
  pub gap_pair : (x y : ℕ) → m % 2 ≡ 0 → Gap h0 h1 w m x y → Paired h0 h1 w m y
  unfolding not_upper
  gap_pair x y even g = go (b.k - 1) (omega (arith, above))
    where
      test : ℕ → Bool
      test z = not (upper h0 h1 w x z)

      down : (a c : ℕ) → a ≤ c → c < m → test c ≡ true → test a ≡ true
      down a c l k t = by (upper h0 h1 w x a) refl
        where
          by : (u : Bool) → upper h0 h1 w x a ≡ u → not u ≡ true
          by false e = refl
          by true e = clash t (ap not (upper_on x a c e l k))

      b : Boundary test m
      b = boundary test m down

      odd : b.k % 2 ≡ 1
      odd = ap (λ (c : ℕ). c % 2) (sym (count_boundary test b.k m b.most b.holds b.fails)) ∙ g.odd

      above : x < b.k
      above =
          ⊎_elim (λ l. l) (λ l. clash (ap not (not_upper_lem x x (omega arith) g.here)) (b.fails x l g.here)) (lt_or_le x b.k)

      not-true : (u : Bool) → not u ≡ true → u ≡ false
      not-true false e = refl
      not-true true e = clash refl (sym e)

      not-false : (u : Bool) → not u ≡ false → u ≡ true
      not-false true e = refl
      not-false false e = clash refl e

      go : (k : ℕ) → k + 1 ≡ b.k → Paired h0 h1 w m y
      go k e =
          record {
            at = k;
            even = omega (arith, odd);
            below = inside;
            between =
                record {
                  apart =
                      lt-ltb ((get_or h0 k 0 + get_or h1 k 0) * get_or w (k + 1) 0) ((get_or h0 (k + 1) 0 + get_or h1 (k + 1) 0) * get_or w k 0)
                      (frac_le_lt (get_or h0 k 0 + get_or h1 k 0) (get_or w k 0) (get_or h0 x 0 + get_or h1 x 0) (get_or w x 0) (get_or h0 (k + 1) 0 + get_or h1 (k + 1) 0) (get_or w (k + 1) 0)
                      (fits k (omega (arith, inside))).some
                      (ltb-false ((get_or h0 x 0 + get_or h1 x 0) * get_or w k 0) ((get_or h0 k 0 + get_or h1 k 0) * get_or w x 0) low)
                      (ltb-true ((get_or h0 x 0 + get_or h1 x 0) * get_or w (k + 1) 0) ((get_or h0 (k + 1) 0 + get_or h1 (k + 1) 0) * get_or w x 0) high));
                  low = same_low x k y (omega (arith, above)) (omega (arith, inside)) low g.low;
                  row = g.row;
                  high = g.high (k + 1) inside high;
                };
          }
        where
          inside : k + 1 < m
          inside = omega (arith, odd, even, b.most)

          low : upper h0 h1 w x k ≡ false
          low = not-true (upper h0 h1 w x k) (b.holds k (omega arith))

          high : upper h0 h1 w x (k + 1) ≡ true
          high = not-false (upper h0 h1 w x (k + 1)) (b.fails (k + 1) (omega arith) inside)
