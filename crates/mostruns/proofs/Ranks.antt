-- The rank of an edge in a unit column, the number of spanning edges that are not higher than it, grows from edge to higher edge and is
-- at most the number of edges.
-- Assumes nothing.
use mathlib.Core.Path.{◌≡◌, refl, ap, ap₂}
use mathlib.Core.Bool.{Bool, true, false, not, ◌&&◌}
use mathlib.Core.List.{List}
use mathlib.Core.Logic.{⊎_elim}
use Prim.Native.Nat.{ℕ, zero, suc, ◌+◌, ◌*◌, ◌≤◌, ◌<◌}
use native.Mathlib.Omega.{arith}
use native.Mathlib.Nat.{mul-le-mul_right, mul-lt-mul_of_pos_right, lt_of_mul-lt-mul_right}
use lib.Dec.{leb}
use borrow.Author.Tests.{leb-true, ltb-true, ltb-false, lt-ltb, le-ltb, not-true}
use Rattle.defs.specs.Meaning.Outline.{one, count_to, Edge, edge_at, sides, spans, width, height}
use Rattle.defs.specs.Computing.Cells.{higher, not_higher}
use Rattle.laws.proofs.Tests.{and_left, and_right, and_both}
use Rattle.geom.proofs.Strip.{lt_or_le}
use Rattle.geom.proofs.Parity.{count_same}
use Rattle.geom.proofs.Column.{clash, count_none, count_split}

count_at_most : (f : ℕ → Bool) (n : ℕ) → count_to f n ≤ n
unfolding count_to
count_at_most f zero = omega arith
count_at_most f (suc n) = go (f n) (count_at_most f n)
  where
    go : (b : Bool) → count_to f n ≤ n → count_to f n + one b ≤ suc n
    go true h = omega arith
    go false h = omega arith

-- c passes g and not f, and what passes f passes g
count_fewer : (f g : ℕ → Bool) (n c : ℕ) → ((i : ℕ) → i < n → f i ≡ true → g i ≡ true) → c < n → g c ≡ true → f c ≡ false →
    count_to f n < count_to g n
count_fewer f g n c within l p q =
    omega (arith, count_split g f n, count_same (λ i. g i && f i) f n (λ i l. both (f i) (g i) (within i l)), some)
  where
    both : (a b : Bool) → (a ≡ true → b ≡ true) → (b && a) ≡ a
    both true b h = and_both (h refl) refl
    both false true h = refl
    both false false h = refl

    some : 0 < count_to (λ i. g i && not (f i)) n
    some =
        ⊎_elim (λ h. h) (λ h. clash (and_both p (ap not q)) (count_none (λ i. g i && not (f i)) n (omega arith) c l))
        (lt_or_le 0 (count_to (λ i. g i && not (f i)) n))

spans_wide : (e : Edge) (k : ℕ) → spans e k ≡ true → 0 < width e
spans_wide e k s =
    omega (arith, leb-true e.xl k (and_left _ _ s), ltb-true k e.xr (and_right (leb e.xl k) _ s))

module _ (k : ℕ) where
  -- g is higher than e, and so than f, which is not higher than e
  pub higher_still : (e f g : Edge) → spans f k ≡ true → higher k e f ≡ false → higher k e g ≡ true → higher k f g ≡ true
  unfolding higher
  higher_still e f g s p q =
      lt-ltb (mid f * width g) (mid g * width f)
      (lt_of_mul-lt-mul_right (width e)
      (omega (
        arith,
        mul-le-mul_right (width g) (ltb-false (mid e * width f) (mid f * width e) p),
        mul-lt-mul_of_pos_right (ltb-true (mid e * width g) (mid g * width e) q) (spans_wide f k s),
      )))
    where
      mid : Edge → ℕ
      mid e = height e k 1 + height e (k + 1) 1

  not_higher_lem : (e f : Edge) → higher k e f ≡ true → higher k f e ≡ false
  unfolding higher
  not_higher_lem e f p = omega (arith, le-ltb, ltb-true)

  higher_itself : (e : Edge) → higher k e e ≡ false
  unfolding higher
  higher_itself e = omega (arith, le-ltb)

  module _ (v : List ℕ) where
    pub rank_at_most : (i : ℕ) → not_higher v k i ≤ sides v
    unfolding not_higher
    rank_at_most i = count_at_most _ (sides v)

    rank_rises : (a b : ℕ) → b < sides v → spans (edge_at v a) k ≡ true → spans (edge_at v b) k ≡ true →
        higher k (edge_at v a) (edge_at v b) ≡ true → not_higher v k a < not_higher v k b
    unfolding not_higher
    rank_rises a b l sa sb h =
        count_fewer (under a) (under b) (sides v) b (λ m _ p. still m p (higher k (edge_at v b) (edge_at v m)) refl) l
        (and_both sb (ap not (higher_itself (edge_at v b)))) (ap₂ ◌&&◌ sb (ap not h))
      where
        under : ℕ → ℕ → Bool
        under i m = spans (edge_at v m) k && not (higher k (edge_at v i) (edge_at v m))

        still : (m : ℕ) → under a m ≡ true → (t : Bool) → higher k (edge_at v b) (edge_at v m) ≡ t →
            (spans (edge_at v m) k && not t) ≡ true
        still m p true q =
            clash (higher_still (edge_at v b) (edge_at v a) (edge_at v m) sa (not_higher_lem (edge_at v a) (edge_at v b) h) q)
            (not-true _ (and_right (spans (edge_at v m) k) _ p))
        still m p false q = and_both (and_left (spans (edge_at v m) k) _ p) refl

    -- an edge of no greater rank is not higher
    pub rank_not_higher : (a b : ℕ) → b < sides v → spans (edge_at v a) k ≡ true → spans (edge_at v b) k ≡ true →
        not_higher v k b ≤ not_higher v k a → higher k (edge_at v a) (edge_at v b) ≡ false
    rank_not_higher a b l sa sb e = go (higher k (edge_at v a) (edge_at v b)) refl
      where
        go : (t : Bool) → higher k (edge_at v a) (edge_at v b) ≡ t → t ≡ false
        go true h = absurd (omega (arith, rank_rises a b l sa sb h))
        go false h = refl
