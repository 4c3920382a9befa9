-- Question 10 pair by pair.
-- Assumes nothing.
use mathlib.Core.Path.{◌≡◌, refl, ap, ap₂, sym, subst, ◌∙◌}
use mathlib.Core.Bool.{Bool, true, false, ◌&&◌, ◌||◌, true≢false}
use mathlib.Core.Logic.{⊎_elim}
use mathlib.Core.List.{List}
use Prim.Native.Nat.{ℕ, ◌+◌, ◌*◌, ◌-◌, ◌≤◌, ◌<◌, min, max}
use native.Mathlib.Numerals.{add-one}
use native.Mathlib.Omega.{arith}
use native.Mathlib.Nat.{mul-le-mul, mul-le-mul_right, mul-one}
use borrow.Author.Tests.{lt-ltb, le-ltb, ltb-true}
use Rattle.laws.proofs.Tests.{and_right, any_to_at, any_to_of}
use Rattle.geom.proofs.Checks.{keeps_decides}
use Rattle.defs.specs.Meaning.Outline.{Edge, sides, edge_at, spans, width, height, lower, change_order, Ordered, KeepsOrder}
use Rattle.defs.specs.Meaning.Turn.{turned, extent_x}
use Rattle.defs.specs.Computing.Test.{any_to}
use Rattle.defs.specs.Computing.Cells.{keeps_orderb}
use Rattle.geom.proofs.Strip.{lt_or_le}
use Rattle.geom.proofs.Column.{clash}
use Rattle.geom.proofs.Extent.{sides_turned}
use Rattle.slabs.specs.Change.{changesb, crossesb}
use Rattle.slabs.proofs.Pair.{change_of, change_test}
use Rattle.outline.specs.Vertex.{Small, SideOf, edge_of}
use Rattle.checks.specs.Order.{rowb, pairsb, HeightOf, Ends}

pub product : (a b m n : ℕ) → a ≤ m → b ≤ n → a * b ≤ m * n
product a b m n h k = mul-le-mul h k

-- the height of an edge at x
module _ {xl yl xr yr x : ℕ} (s : Small xl yl xr yr) (l : xl ≤ x) (r : x ≤ xr) where
  pub height_law : HeightOf (edge_of xl yl xr yr) x (yl * (xr - x) + yr * (x - xl))
  unfolding height
  height_law =
      record {
        is = rw (mul-one xr, mul-one xl) refl;
        most = mean (xr - x) (x - xl) (omega (arith, s.right_most));
      }
    where
      mean : (a b : ℕ) → a + b ≤ 16000 → yl * a + yr * b ≤ 256000000
      mean a b h = omega (arith, mul-le-mul_right a s.yl_most, mul-le-mul_right b s.yr_most)

pub small_of : {o : List ℕ} {t i xl yl xr yr : ℕ} → SideOf o t i xl yl xr yr → Small xl yl xr yr
small_of s = record { order = s.order; right_most = s.right_most; yl_most = s.yl_most; yr_most = s.yr_most }

-- row by row
pub none_yet : (v : List ℕ) (e : Edge) → rowb v e 0 ≡ false
unfolding rowb any_to
none_yet v e = refl

any_more : (f : ℕ → Bool) (i : ℕ) → any_to f i ≡ false → f i ≡ false → any_to f (i + 1) ≡ false
unfolding any_to
any_more f i h k = ap (any_to f) (add-one i) ∙ rw (k, h) refl

pub row_more : (v : List ℕ) (e : Edge) (j : ℕ) → rowb v e j ≡ false → changesb e (edge_at v j) ≡ false → rowb v e (j + 1) ≡ false
unfolding rowb
row_more v e j h k = any_more (λ j. changesb e (edge_at v j)) j h k

pub row_hit : (v : List ℕ) (e : Edge) (j i : ℕ) → j < i → changesb e (edge_at v j) ≡ true → rowb v e i ≡ true
unfolding rowb
row_hit v e j i l k = any_to_of (λ j. changesb e (edge_at v j)) i j l k

pub no_pair : (v : List ℕ) → pairsb v 0 ≡ false
unfolding pairsb any_to
no_pair v = refl

pub pairs_more : {xl yl xr yr : ℕ} (o : List ℕ) (t i : ℕ) → pairsb (turned o t) i ≡ false → SideOf o t i xl yl xr yr → rowb (turned o t) (edge_of xl yl xr yr) i ≡ false → pairsb (turned o t) (i + 1) ≡ false
unfolding pairsb
pairs_more o t i h s k =
    any_more (λ i. rowb (turned o t) (edge_at (turned o t) i) i) i h (ap (λ (e : Edge). rowb (turned o t) e i) (sym s.is) ∙ k)

pub pairs_hit : {xl yl xr yr : ℕ} (o : List ℕ) (t i n : ℕ) → i < n → SideOf o t i xl yl xr yr → rowb (turned o t) (edge_of xl yl xr yr) i ≡ true → pairsb (turned o t) n ≡ true
unfolding pairsb
pairs_hit o t i n l s k =
    any_to_of (λ i. rowb (turned o t) (edge_at (turned o t) i) i) n i l (ap (λ (e : Edge). rowb (turned o t) e i) (sym s.is) ∙ k)

-- the pairs of an outline and its unit columns
and_comm : (a b : Bool) → (a && b) ≡ (b && a)
and_comm true true = refl
and_comm true false = refl
and_comm false true = refl
and_comm false false = refl

or_comm : (a b : Bool) → (a || b) ≡ (b || a)
or_comm true true = refl
or_comm true false = refl
or_comm false true = refl
or_comm false false = refl

change_both : (k : ℕ) (e f : Edge) → change_order k e f ≡ change_order k f e
unfolding change_order
change_both k e f =
    ap₂ ◌&&◌ (and_comm (spans e k) (spans f k))
    (or_comm (lower e f k && lower f e (k + 1)) (lower f e k && lower e f (k + 1)))

not_self : (k : ℕ) (e : Edge) → change_order k e e ≡ true → ⊥
unfolding change_order
not_self k e t = go (lower e e k) refl (and_right (spans e k && spans e k) _ t)
  where
    go : (b : Bool) → lower e e k ≡ b → ((b && lower e e (k + 1)) || (b && lower e e (k + 1))) ≡ true → ⊥
    go true q h = omega (arith, ltb-true (height e k 1 * width e) (height e k 1 * width e) q)
    go false q h = true≢false (sym h)

module _ (o : List ℕ) (t : ℕ) where
  abbrev v : List ℕ
  v = turned o t

  -- a pair gives a unit column
  in_turned : {i : ℕ} → i < sides o → i < sides v
  in_turned {i} l = subst (λ (n : ℕ). i < n) (sym (sides_turned o t)) l

  pub pair_fails : pairsb v (sides o) ≡ true → keeps_orderb v (extent_x o t) ≡ false
  unfolding pairsb rowb KeepsOrder Ordered
  pair_fails h =
      let a = any_to_at (λ i. rowb v (edge_at v i) i) (sides o) h in
      let b = any_to_at (λ j. changesb (edge_at v a.i) (edge_at v j)) a.i a.holds in
      let c = change_of _ _ b.holds in
      go (keeps_orderb v (extent_x o t)) refl
      (λ q. clash c.there ((keeps_decides o t).0 q c.k a.i b.i (in_turned a.below) (in_turned (omega (arith, a.below, b.below)))))
    where
      go : (b : Bool) → keeps_orderb v (extent_x o t) ≡ b → (keeps_orderb v (extent_x o t) ≡ true → ⊥) → b ≡ false
      go false q k = refl
      go true q k = absurd (k q)

  found : (k i j : ℕ) → i < sides o → j < i → change_order k (edge_at v i) (edge_at v j) ≡ true → pairsb v (sides o) ≡ true
  unfolding pairsb rowb
  found k i j li l q =
      any_to_of (λ i. rowb v (edge_at v i) i) (sides o) i li
      (any_to_of (λ j. changesb (edge_at v i) (edge_at v j)) i j l (change_test (edge_at v i) (edge_at v j) k q))

  pub pairs_keep : pairsb v (sides o) ≡ false → keeps_orderb v (extent_x o t) ≡ true
  unfolding KeepsOrder Ordered
  pairs_keep h =
      (keeps_decides o t).1
      (λ k i j li lj.
      none k i j (subst (λ (n : ℕ). i < n) (sides_turned o t) li) (subst (λ (n : ℕ). j < n) (sides_turned o t) lj)
      (change_order k (edge_at v i) (edge_at v j)) refl)
    where
      pair : (k i j : ℕ) → i < sides o → j < i → change_order k (edge_at v i) (edge_at v j) ≡ true → ⊥
      pair k i j li l q = true≢false (sym (found k i j li l q) ∙ h)

      none : (k i j : ℕ) → i < sides o → j < sides o → (b : Bool) → change_order k (edge_at v i) (edge_at v j) ≡ b → b ≡ false
      none k i j li lj false q = refl
      none k i j li lj true q =
          ⊎_elim (λ l. absurd (pair k i j li l q))
          (λ l.
          ⊎_elim (λ m. absurd (pair k j i lj m (change_both k (edge_at v j) (edge_at v i) ∙ q)))
          (λ m. let e : i ≡ j = omega arith in absurd (not_self k (edge_at v j) (subst (λ (n : ℕ). change_order k (edge_at v n) (edge_at v j) ≡ true) e q)))
          (lt_or_le i j))
          (lt_or_le j i)

module _ {xl yl xr yr x : ℕ} (s : Small xl yl xr yr) (l : xl ≤ x) (r : x ≤ xr) where
  pub left_part : {u y : ℕ} → u ≡ xr - x → y ≡ yl → y * u ≤ 256000000
  left_part {u} {y} e f = product y u 16000 16000 (omega (arith, s.yl_most)) (omega (arith, s.right_most))

  pub right_part : {v y : ℕ} → v ≡ x - xl → y ≡ yr → y * v ≤ 256000000
  right_part {v} {y} e f = product y v 16000 16000 (omega (arith, s.yr_most)) (omega (arith, s.right_most))

  pub height_from : {u v y z : ℕ} → u ≡ xr - x → v ≡ x - xl → y ≡ yl → z ≡ yr → HeightOf (edge_of xl yl xr yr) x (y * u + z * v)
  height_from a b c d = rw (a, b, c, d) (height_law s l r)

pub times_width : {e : Edge} {x h w m : ℕ} (n : ℕ) → HeightOf e x h → w ≡ m - n → m ≤ 16000 → h * w ≤ 4096000000000
times_width {e} {x} {h} {w} n k q l = product h w 256000000 16000 k.most (omega arith)

pub span_product : {a0 b0 a1 b1 l : ℕ} → Ends a0 b0 a1 b1 l → l * (b0 - a0) ≤ 65536000000000000
span_product {a0} {b0} {a1} {b1} {l} e = product l (b0 - a0) 16000 4096000000000 e.long (omega (arith, e.second_left))

module _ (e f : Edge) {a b : ℕ} (ea : a ≡ max e.xl f.xl) (eb : b ≡ min e.xr f.xr) where
  pub changes_yes : {v w e0 f0 e1 f1 l : ℕ} → a < b → HeightOf e a e0 → HeightOf f a f0 → HeightOf e b e1 → HeightOf f b f1 →
      v ≡ width e → w ≡ width f → l ≡ b - a → crossesb (e0 * w) (f0 * v) (e1 * w) (f1 * v) l ≡ changesb e f
  unfolding changesb
  changes_yes lt h0 h1 h2 h3 ev ew el = rw (← ea, ← eb, lt-ltb a b lt, h0.is, h1.is, h2.is, h3.is, ev, ew, el) refl

  pub changes_no : b ≤ a → false ≡ changesb e f
  unfolding changesb
  changes_no lt = rw (← ea, ← eb, le-ltb a b lt) refl

pub row_end : (v : List ℕ) (e : Edge) {i j : ℕ} → rowb v e j ≡ false → j ≡ i → false ≡ rowb v e i
row_end v e h q = sym (subst (λ (n : ℕ). rowb v e n ≡ false) q h)

pub pairs_end : (o : List ℕ) (t : ℕ) {i : ℕ} → pairsb (turned o t) i ≡ false → i ≡ sides o → true ≡ keeps_orderb (turned o t) (extent_x o t)
pairs_end o t h q = sym (pairs_keep o t (subst (λ (n : ℕ). pairsb (turned o t) n ≡ false) q h))
