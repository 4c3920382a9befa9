-- The rows met in a slab, without naming the next edge: row j is open above edge i.
-- Assumes nothing.
use mathlib.Core.Path.{◌≡◌, ap₂}
use mathlib.Core.Bool.{Bool, true, not, ◌&&◌}
use mathlib.Core.Logic.{◌⊎◌, inl, inr, ⊎_elim}
use Prim.Native.Nat.{ℕ, ◌+◌, ◌*◌, ◌%◌, ◌≤◌, ◌<◌, min, max}
use native.Mathlib.Omega.{arith}
use native.Mathlib.Nat.{mul-lt-mul_of_pos_right, lt_of_mul-lt-mul_right}
use lib.Dec.{ltb}
use Rattle.laws.proofs.Tests.{and_left, and_right}
use Rattle.defs.specs.Meaning.Outline.{count_to}
use Rattle.geom.proofs.Strip.{lt_or_le}
use Rattle.geom.proofs.Column.{Top, topmost, count_split, Met, mid, not_lower, mid_trans, mid_irr}

-- edge i lies below row j's top, an odd number of edges is not above it, and each edge above it rises above the row's foot
pub record Open (n : ℕ) (S : ℕ → Bool) (H0 H1 W : ℕ → ℕ) (i j : ℕ) : Type 0 where
  pub here : i < n
  pub edge : S i ≡ true
  pub odd : count_to (λ g. S g && not (ltb ((H0 i + H1 i) * W g) ((H0 g + H1 g) * W i))) n % 2 ≡ 1
  pub low : min (H0 i) (H1 i) < (j + 1) * W i
  pub high : (g : ℕ) → g < n → S g ≡ true → ltb ((H0 i + H1 i) * W g) ((H0 g + H1 g) * W i) ≡ true → j * W g < max (H0 g) (H1 g)

carry : (j Wb Wg hb hg : ℕ) → 0 < Wg → j * Wb < hb → hb * Wg ≤ hg * Wb → j * Wg < hg
carry j Wb Wg hb hg gp h l = lt_of_mul-lt-mul_right Wb (omega (arith, mul-lt-mul_of_pos_right h gp))

either : (a b c : ℕ) → min a b < c → (a < c) ⊎ (b < c)
either a b c h = ⊎_elim inl (λ z. inr (omega arith)) (lt_or_le a c)

either_max : (a b c : ℕ) → c < max a b → (c < a) ⊎ (c < b)
either_max a b c h = ⊎_elim inl (λ z. inr (omega arith)) (lt_or_le c a)

module _
    (n : ℕ)
    (S : ℕ → Bool)
    (H0 H1 W : ℕ → ℕ)
    (pos : (i : ℕ) → S i ≡ true → 0 < W i)
    (ord : (i j : ℕ) → S i ≡ true → S j ≡ true → H0 i * W j < H0 j * W i → H1 j * W i < H1 i * W j → ⊥)
    (within : (i : ℕ) → S i ≡ true → i < n)
  where
    pub met_open : (j : ℕ) (t : Met n S H0 H1 W pos ord j) → Open n S H0 H1 W t.a j
    met_open j t =
        record {
          here = within t.a t.a_edge;
          edge = t.a_edge;
          odd = t.odd;
          low = ⊎_elim (λ h. omega arith) (λ h. omega arith) t.low;
          high = λ g l sg m. rises g l sg m;
        }
      where
        rises : (g : ℕ) → g < n → S g ≡ true → mid n S H0 H1 W pos ord t.a g ≡ true → j * W g < max (H0 g) (H1 g)
        rises g l sg m =
            let q = t.next g l sg m in
            let gp = pos g sg in
            ⊎_elim
            (λ h.
            let z = carry j (W t.b) (W g) (H0 t.b) (H0 g) gp h (omega (arith, not_lower n S H0 H1 W pos ord g t.b 1 0 sg t.b_edge q)) in
            omega arith)
            (λ h.
            let z = carry j (W t.b) (W g) (H1 t.b) (H1 g) gp h (omega (arith, not_lower n S H0 H1 W pos ord g t.b 0 1 sg t.b_edge q)) in
            omega arith)
            t.high

    pub open_met : count_to S n % 2 ≡ 0 → (i j : ℕ) → Open n S H0 H1 W i j → Met n S H0 H1 W pos ord j
    open_met even i j e =
        ⊎_elim (λ z. absurd (omega (arith, e.odd, z, even, count_split S (λ g. mid n S H0 H1 W pos ord i g) n)))
        found
        (topmost n above (λ x y. mid n S H0 H1 W pos ord y x)
        (λ a b c pa pb pc ab bc.
        mid_trans n S H0 H1 W pos ord c b a (and_left (S c) _ pc) (and_left (S b) _ pb) (and_left (S a) _ pa) bc ab)
        (λ a. mid_irr n S H0 H1 W pos ord a))
      where
        above : ℕ → Bool
        above g = S g && mid n S H0 H1 W pos ord i g

        found : Top n above (λ x y. mid n S H0 H1 W pos ord y x) → Met n S H0 H1 W pos ord j
        found t =
            let sb = and_left (S t.top) _ t.holds in
            let mb = and_right (S t.top) _ t.holds in
            record {
              a = i;
              b = t.top;
              a_edge = e.edge;
              b_edge = sb;
              odd = e.odd;
              upper = mb;
              next = λ g gl sg mg. t.none g gl (ap₂ ◌&&◌ sg mg);
              low = either (H0 i) (H1 i) ((j + 1) * W i) e.low;
              high = either_max (H0 t.top) (H1 t.top) (j * W t.top) (e.high t.top t.below sb mb);
            }
