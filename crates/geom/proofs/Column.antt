-- One unit column: which rows are covered, from the order of the edges in it.
-- Edge i spans the column if S i; its heights at the sides are H0 i / W i and H1 i / W i. No two spanning edges change order.
-- Assumes nothing.
use mathlib.Core.Path.{◌≡◌, refl, ap, ap₂, sym, ◌∙◌, subst⁻¹}
use mathlib.Core.Bool.{Bool, true, false, not, ◌&&◌, true≢false}
use mathlib.Core.Logic.{◌⊎◌, inl, inr, ⊎_elim}
use Prim.Native.Nat.{ℕ, zero, suc, ◌+◌, ◌*◌, ◌%◌, ◌≤◌, ◌<◌}
use native.Mathlib.Omega.{arith}
use native.Mathlib.Nat.{mul-le-mul_left, mul-le-mul_right, mul-lt-mul_of_pos_right, lt_of_mul-lt-mul_right}
use lib.Dec.{ltb}
use borrow.Author.Tests.{lt-ltb, le-ltb, ltb-true, ltb-false, not-true}
use Rattle.laws.proofs.Tests.{and_left, and_right}
use Rattle.defs.specs.Meaning.Outline.{one}
use Rattle.defs.specs.Meaning.Outline.{count_to}
use Rattle.geom.proofs.Strip.{lt_or_le, Between, strip, strictly}
use Rattle.geom.proofs.Line.{keeps}
use Rattle.geom.proofs.Parity.{count_same}

-- what holds of each index below n, and of n, holds of each below n + 1
pub and_last : (n : ℕ) (Q : ℕ → Type 0) → ((g : ℕ) → g < n → Q g) → Q n → (g : ℕ) → g < suc n → Q g
and_last n Q f q g h =
    ⊎_elim (λ l. f g l) (λ l. let e : g ≡ n = omega arith in subst⁻¹ Q e q) (lt_or_le g n)

pub clash {ℓ} : {A : Type ℓ} {b : Bool} → b ≡ true → b ≡ false → A
clash p q = absurd (true≢false (sym p ∙ q))

pub count_none : (P : ℕ → Bool) (n : ℕ) → count_to P n ≡ 0 → (g : ℕ) → g < n → P g ≡ false
unfolding count_to
count_none P zero z g h = absurd (omega arith)
count_none P (suc n) z g h =
    and_last n (λ g. P g ≡ false) (count_none P n (omega arith)) (go (P n) (omega arith)) g h
  where
    go : (b : Bool) → one b ≡ 0 → b ≡ false
    go true e = absurd (omega arith)
    go false e = refl

-- Of the indices that pass a test, one above which none stands in a transitive order.
pub record Top (n : ℕ) (P : ℕ → Bool) (above : ℕ → ℕ → Bool) : Type 0 where
  pub top : ℕ
  pub below : top < n
  pub holds : P top ≡ true
  pub none : (g : ℕ) → g < n → P g ≡ true → above top g ≡ false

-- either none passes, or there is a top one
pub topmost :
    (n : ℕ) (P : ℕ → Bool) (above : ℕ → ℕ → Bool) → ((a b c : ℕ) → P a ≡ true → P b ≡ true → P c ≡ true → above a b ≡ true → above b c ≡ true → above a c ≡ true) → ((a : ℕ) → above a a ≡ false) → (count_to P n ≡ 0) ⊎ Top n P above
unfolding count_to
topmost zero P above tr ir = inl refl
topmost (suc n) P above tr ir = ⊎_elim (λ z. fresh z (P n) refl) (λ t. grown t (P n) refl) (topmost n P above tr ir)
  where
    fresh : count_to P n ≡ 0 → (b : Bool) → P n ≡ b → (count_to P n + one (P n) ≡ 0) ⊎ Top (suc n) P above
    fresh z true h =
        inr (
        record {
          top = n;
          below = omega arith;
          holds = h;
          none = and_last n (λ g. P g ≡ true → above n g ≡ false) (λ g l p. clash p (count_none P n z g l)) (λ p. ir n);
        }
        )
    fresh z false h = inl (rw h (omega arith))

    old : (t : Top n P above) → (P n ≡ true → above t.top n ≡ false) → Top (suc n) P above
    old t f =
        record {
          top = t.top;
          below = omega (arith, t.below);
          holds = t.holds;
          none = and_last n (λ g. P g ≡ true → above t.top g ≡ false) t.none f;
        }

    over : (t : Top n P above) → P n ≡ true → (b : Bool) → above t.top n ≡ b → Top (suc n) P above
    over t h true a =
        record {
          top = n;
          below = omega arith;
          holds = h;
          none = and_last n (λ g. P g ≡ true → above n g ≡ false) (λ g l p. beats g l p (above n g) refl) (λ p. ir n);
        }
      where
        beats : (g : ℕ) → g < n → P g ≡ true → (b : Bool) → above n g ≡ b → b ≡ false
        beats g l p true q = clash (tr t.top n g t.holds h p a q) (t.none g l p)
        beats g l p false q = refl
    over t h false a = old t (λ p. a)

    grown : Top n P above → (b : Bool) → P n ≡ b → (count_to P n + one (P n) ≡ 0) ⊎ Top (suc n) P above
    grown t true h = inr (over t h (above t.top n) refl)
    grown t false h = inr (old t (λ p. clash p h))

-- two tests of which exactly one holds split a count
pub count_split : (f g : ℕ → Bool) (n : ℕ) → count_to f n ≡ count_to (λ i. f i && g i) n + count_to (λ i. f i && not (g i)) n
unfolding count_to
count_split f g zero = refl
count_split f g (suc n) = go (f n) (g n) _ _ _ (count_split f g n)
  where
    go : (a b : Bool) (x y z : ℕ) → x ≡ y + z → x + one a ≡ y + one (a && b) + (z + one (a && not b))
    go true true x y z h = omega arith
    go true false x y z h = omega arith
    go false b x y z h = omega arith

-- three fractions by cross products
frac_lt_trans : (a b c d e f : ℕ) → 0 < f → 0 < b → a * d < c * b → c * f < e * d → a * f < e * b
frac_lt_trans a b c d e f fp bp h k = lt_of_mul-lt-mul_right d (omega (arith, mul-lt-mul_of_pos_right h fp, mul-lt-mul_of_pos_right k bp))

module _
    (n : ℕ)
    (S : ℕ → Bool)
    (H0 H1 W : ℕ → ℕ)
    (pos : (i : ℕ) → S i ≡ true → 0 < W i)
    (ord : (i j : ℕ) → S i ≡ true → S j ≡ true → H0 i * W j < H0 j * W i → H1 j * W i < H1 i * W j → ⊥)
  where
    -- i is lower than j in the middle of the column
    abbrev pub mid : ℕ → ℕ → Bool
    mid i j = ltb ((H0 i + H1 i) * W j) ((H0 j + H1 j) * W i)

    abbrev pub rank : ℕ → ℕ
    rank a = count_to (λ g. S g && not (mid a g)) n

    -- lower in the middle: not higher at the sides, and strictly lower at one
    pub sides_of :
        (i j : ℕ) → S i ≡ true → S j ≡ true → mid i j ≡ true → (H0 i * W j ≤ H0 j * W i) × (H1 i * W j ≤ H1 j * W i) × ((H0 i * W j < H0 j * W i) ⊎ (H1 i * W j < H1 j * W i))
    sides_of i j si sj h =
        let l : (H0 i + H1 i) * W j < (H0 j + H1 j) * W i = ltb-true _ _ h in
        let k = keeps (H0 i * W j) (H1 i * W j) (H0 j * W i) (H1 j * W i) 1 1 (ord j i sj si) (ord i j si sj) (omega arith) in
        (k.0, k.1, ⊎_elim inl (λ a. inr (omega arith)) (lt_or_le (H0 i * W j) (H0 j * W i)))

    pub lower_at : (i j u v : ℕ) → 0 < u → 0 < v → S i ≡ true → S j ≡ true → mid i j ≡ true → (u * H0 i + v * H1 i) * W j < (u * H0 j + v * H1 j) * W i
    lower_at i j u v up vp si sj h =
        let s = sides_of i j si sj h in
        omega (arith, strictly (H0 i * W j) (H1 i * W j) (H0 j * W i) (H1 j * W i) u v up vp s.0 s.1 s.2)

    -- lower somewhere inside: lower in the middle
    pub mid_of : (i j u v : ℕ) → S i ≡ true → S j ≡ true → (u * H0 i + v * H1 i) * W j < (u * H0 j + v * H1 j) * W i → mid i j ≡ true
    mid_of i j u v si sj h = go (H0 i * W j) (H1 i * W j) (H0 j * W i) (H1 j * W i) (omega arith) (ord j i sj si) (ord i j si sj) (omega arith) (omega arith)
      where
        go :
            (x0 x1 y0 y1 : ℕ) → u * x0 + v * x1 < u * y0 + v * y1 → ((y0 < x0) → (x1 < y1) → ⊥) → ((x0 < y0) → (y1 < x1) → ⊥) → (H0 i + H1 i) * W j ≡ x0 + x1 → (H0 j + H1 j) * W i ≡ y0 + y1 → mid i j ≡ true
        go x0 x1 y0 y1 l a b e f =
            let k = keeps x0 x1 y0 y1 u v a b l in
            ⊎_elim (λ s. omega (arith, lt-ltb))
            (λ s.
            let p : x0 ≡ y0 = omega (arith, k.0, k.1) in
            let q : x1 ≡ y1 = omega (arith, k.0, k.1) in
            absurd (omega (arith, ap (λ (t : ℕ). u * t) p, ap (λ (t : ℕ). v * t) q)))
            (lt_or_le (x0 + x1) (y0 + y1))

    pub mid_trans : (a b c : ℕ) → S a ≡ true → S b ≡ true → S c ≡ true → mid a b ≡ true → mid b c ≡ true → mid a c ≡ true
    mid_trans a b c sa sb sc h k =
        lt-ltb _ _ (frac_lt_trans (H0 a + H1 a) (W a) (H0 b + H1 b) (W b) (H0 c + H1 c) (W c) (pos c sc) (pos a sa) (ltb-true _ _ h) (ltb-true _ _ k))

    pub mid_irr : (a : ℕ) → mid a a ≡ false
    mid_irr a = omega (arith, le-ltb)

    -- The row is met by the part of the column between edge a and the next edge above it, b.
    pub record Met (j : ℕ) : Type 0 where
      pub a : ℕ
      pub b : ℕ
      pub a_edge : S a ≡ true
      pub b_edge : S b ≡ true
      pub odd : rank a % 2 ≡ 1
      pub upper : mid a b ≡ true
      pub next : (g : ℕ) → g < n → S g ≡ true → mid a g ≡ true → mid g b ≡ false
      pub low : (H0 a < (j + 1) * W a) ⊎ (H1 a < (j + 1) * W a)
      pub high : (j * W b < H0 b) ⊎ (j * W b < H1 b)

    -- A point of row j in the column, inside.
    pub record Point (j : ℕ) : Type 0 where
      pub u : ℕ
      pub v : ℕ
      pub q : ℕ
      pub m : ℕ
      pub u_pos : 0 < u
      pub v_pos : 0 < v
      pub m_pos : 0 < m
      pub low : j * ((u + v) * m) < q
      pub high : q < (j + 1) * ((u + v) * m)
      pub clear : (i : ℕ) → i < n → S i ≡ true → (u * H0 i + v * H1 i) * m ≡ q * W i → ⊥
      pub odd : count_to (λ i. S i && ltb ((u * H0 i + v * H1 i) * m) (q * W i)) n % 2 ≡ 1

    -- a height below the point and one above it are in that order
    apart : (P w R z q m : ℕ) → 0 < w → 0 < z → P * m < q * w → q * z < R * m → P * z < R * w
    apart P w R z q m wp zp h k = lt_of_mul-lt-mul_right m (omega (arith, mul-lt-mul_of_pos_right h zp, mul-lt-mul_of_pos_right k wp))

    -- not above what is below the point, not below what is above it
    still_below : (P w R z q m : ℕ) → 0 < z → P * m < q * w → R * w ≤ P * z → R * m < q * z
    still_below P w R z q m zp h k = lt_of_mul-lt-mul_right w (omega (arith, mul-lt-mul_of_pos_right h zp, mul-le-mul_right m k))

    still_above : (P z R w q m : ℕ) → 0 < z → q * w < R * m → R * z ≤ P * w → q * z < P * m
    still_above P z R w q m zp h k = lt_of_mul-lt-mul_right w (omega (arith, mul-lt-mul_of_pos_right h zp, mul-le-mul_right m k))

    pub not_lower : (i j u v : ℕ) → S i ≡ true → S j ≡ true → mid i j ≡ false → (u * H0 j + v * H1 j) * W i ≤ (u * H0 i + v * H1 i) * W j
    not_lower i j u v si sj e =
        ⊎_elim (λ l. clash (mid_of i j u v si sj l) e) (λ l. l) (lt_or_le ((u * H0 i + v * H1 i) * W j) ((u * H0 j + v * H1 j) * W i))

    -- from the order of the edges to a point
    pub point_of : (j : ℕ) → Met j → Point j
    point_of j t =
        let s = sides_of t.a t.b t.a_edge t.b_edge t.upper in
        from (strip (H0 t.a) (H1 t.a) (W t.a) (H0 t.b) (H1 t.b) (W t.b) j (pos _ t.a_edge) (pos _ t.b_edge) s.0 s.1 s.2 t.low t.high)
      where
        from : Between (H0 t.a) (H1 t.a) (W t.a) (H0 t.b) (H1 t.b) (W t.b) j → Point j
        from p =
            record {
              u = p.u;
              v = p.v;
              q = p.q;
              m = p.m;
              u_pos = p.u_pos;
              v_pos = p.v_pos;
              m_pos = p.m_pos;
              low = p.low;
              high = p.high;
              clear = λ i l si. (sided i l si (mid t.a i) refl).0;
              odd = ap (λ (c : ℕ). c % 2) (count_same _ (λ g. S g && not (mid t.a g)) n (λ i l. same i l (S i) refl)) ∙ t.odd;
            }
          where
            h : ℕ → ℕ
            h i = p.u * H0 i + p.v * H1 i

            sided :
                (i : ℕ) → i < n → S i ≡ true → (b : Bool) → mid t.a i ≡ b → ((p.u * H0 i + p.v * H1 i) * p.m ≡ p.q * W i → ⊥) × (ltb ((p.u * H0 i + p.v * H1 i) * p.m) (p.q * W i) ≡ not b)
            sided i l si true e =
                let k : p.q * W i < (p.u * H0 i + p.v * H1 i) * p.m = still_above _ _ _ _ _ _ (pos i si) p.under (not_lower i t.b p.u p.v si t.b_edge (t.next i l si e)) in
                ((λ f. omega arith), omega (arith, le-ltb))
            sided i l si false e =
                let k : (p.u * H0 i + p.v * H1 i) * p.m < p.q * W i = still_below _ _ _ _ _ _ (pos i si) p.over (not_lower t.a i p.u p.v t.a_edge si e) in
                ((λ f. omega arith), omega (arith, lt-ltb))

            same : (i : ℕ) → i < n → (b : Bool) → S i ≡ b → b && ltb ((p.u * H0 i + p.v * H1 i) * p.m) (p.q * W i) ≡ b && not (mid t.a i)
            same i l true e = (sided i l e (mid t.a i) refl).1
            same i l false e = refl

    low_end : (x0 x1 u v m q w j : ℕ) → (u * x0 + v * x1) * m < q * w → q < (j + 1) * ((u + v) * m) → (x0 < (j + 1) * w) ⊎ (x1 < (j + 1) * w)
    low_end x0 x1 u v m q w j h k =
        ⊎_elim inl
        (λ a.
        ⊎_elim inr
        (λ b. absurd (omega (arith, h, mul-le-mul_left (u * m) a, mul-le-mul_left (v * m) b, mul-le-mul_right w k)))
        (lt_or_le x1 ((j + 1) * w)))
        (lt_or_le x0 ((j + 1) * w))

    high_end : (x0 x1 u v m q w j : ℕ) → j * ((u + v) * m) < q → q * w < (u * x0 + v * x1) * m → (j * w < x0) ⊎ (j * w < x1)
    high_end x0 x1 u v m q w j h k =
        ⊎_elim inl
        (λ a.
        ⊎_elim inr
        (λ b. absurd (omega (arith, k, mul-le-mul_left (u * m) a, mul-le-mul_left (v * m) b, mul-le-mul_right w h)))
        (lt_or_le (j * w) x1))
        (lt_or_le (j * w) x0)

    -- from a point to the order of the edges
    pub met_of : count_to S n % 2 ≡ 0 → (j : ℕ) → Point j → Met j
    met_of even j p = ⊎_elim (λ z. absurd (omega (arith, p.odd))) (λ a. ⊎_elim (λ z. absurd (omega (arith, p.odd, split, even))) (λ b. found a b) uppers) lowers
      where
        under : ℕ → Bool
        under i = ltb ((p.u * H0 i + p.v * H1 i) * p.m) (p.q * W i)

        down : ℕ → Bool
        down i = S i && ltb ((p.u * H0 i + p.v * H1 i) * p.m) (p.q * W i)

        up : ℕ → Bool
        up i = S i && not (ltb ((p.u * H0 i + p.v * H1 i) * p.m) (p.q * W i))

        split : count_to S n ≡ count_to down n + count_to up n
        split = count_split S under n

        lowers : (count_to down n ≡ 0) ⊎ Top n down mid
        lowers = topmost n down mid (λ a b c pa pb pc. mid_trans a b c (and_left _ _ pa) (and_left _ _ pb) (and_left _ _ pc)) mid_irr

        uppers : (count_to up n ≡ 0) ⊎ Top n up (λ a b. mid b a)
        uppers = topmost n up (λ a b. mid b a) (λ a b c pa pb pc h k. mid_trans c b a (and_left _ _ pc) (and_left _ _ pb) (and_left _ _ pa) k h) mid_irr

        found : Top n down mid → Top n up (λ a b. mid b a) → Met j
        found a b =
            record {
              a = a.top;
              b = b.top;
              a_edge = sa;
              b_edge = sb;
              odd = ap (λ (c : ℕ). c % 2) (count_same _ down n (λ g l. same g l (S g) refl)) ∙ p.odd;
              upper = mid_of _ _ _ _ sa sb (apart _ _ _ _ _ _ (pos _ sa) (pos _ sb) ha (above b.top b.below sb (not-true _ (and_right (S b.top) _ b.holds))));
              next = λ g l sg h. b.none g l (upward g l sg h (under g) refl);
              low = low_end _ _ _ _ _ _ _ j ha p.high;
              high = high_end _ _ _ _ _ _ _ j p.low (above b.top b.below sb (not-true _ (and_right (S b.top) _ b.holds)));
            }
          where
            sa : S a.top ≡ true
            sa = and_left _ _ a.holds

            sb : S b.top ≡ true
            sb = and_left _ _ b.holds

            ha : (p.u * H0 a.top + p.v * H1 a.top) * p.m < p.q * W a.top
            ha = ltb-true _ _ (and_right (S a.top) _ a.holds)

            above : (g : ℕ) → g < n → S g ≡ true → under g ≡ false → p.q * W g < (p.u * H0 g + p.v * H1 g) * p.m
            above g l sg e = omega (arith, ltb-false ((p.u * H0 g + p.v * H1 g) * p.m) (p.q * W g) e, p.clear g l sg)

            over : (g : ℕ) → g < n → S g ≡ true → under g ≡ false → mid a.top g ≡ true
            over g l sg e = mid_of _ _ _ _ sa sg (apart _ _ _ _ _ _ (pos _ sa) (pos _ sg) ha (above g l sg e))

            same : (g : ℕ) → g < n → (c : Bool) → S g ≡ c → c && not (mid a.top g) ≡ c && under g
            same g l false e = refl
            same g l true e = go (under g) refl
              where
                go : (c : Bool) → under g ≡ c → not (mid a.top g) ≡ under g
                go true f = rw (a.none g l (ap₂ ◌&&◌ e f), f)
                go false f = rw (over g l e f, f)

            upward : (g : ℕ) → g < n → S g ≡ true → mid a.top g ≡ true → (c : Bool) → under g ≡ c → up g ≡ true
            upward g l sg h true f = clash h (a.none g l (ap₂ ◌&&◌ sg f))
            upward g l sg h false f = rw (sg, f)
