-- Left and right of a vertical line x = k, just above the height q/d: how many edges pass below there. The two numbers and that of the
-- vertical edges at k that go up past q/d have an even sum.
-- Assumes nothing.
use mathlib.Core.Path.{◌≡◌, refl, ap, sym, ◌∙◌}
use mathlib.Core.Logic.{⊎_elim}
use mathlib.Core.Bool.{Bool, true, false, xor, ◌&&◌}
use mathlib.Core.List.{List}
use Prim.Native.Nat.{ℕ, zero, suc, ◌+◌, ◌*◌, ◌%◌, ◌≤◌, ◌<◌}
use native.Mathlib.Omega.{arith}
use native.Mathlib.Nat.{mul-le-mul_right, mul-lt-mul_of_pos_right}
use lib.Dec.{ltb, leb, eqb}
use borrow.Author.Tests.{lt-ltb, le-ltb, le-leb, lt-leb, eq-eqb}
use Rattle.laws.proofs.Order.{compare3}
use Rattle.defs.specs.Meaning.Outline.{Edge, edge_at, edge_between, sides, after, vx, vy, height, width, spans, one, count_to}
use Rattle.geom.proofs.Strip.{le_or_lt}
use Rattle.geom.proofs.Parity.{xor_comm, closed}
use Rattle.geom.proofs.Line.{height_is}
use Rattle.knife.specs.Knife.{passes_up}
use Rattle.knife.proofs.Border.{less_not_equal, more_not_equal}

-- the edge spans the column right of x = k and is not above q/d at k
abbrev pub right_under : ℕ → ℕ → ℕ → Edge → Bool
right_under k q d e = spans e k && leb (height e k 1 * d) (q * width e)

-- the same with the column left of x = k
abbrev pub left_under : ℕ → ℕ → ℕ → Edge → Bool
left_under k q d e = (ltb e.xl k && leb k e.xr) && leb (height e k 1 * d) (q * width e)

-- One edge, by the x of its ends. u and v say whether an end is not above q/d, c whether the edge is not above q/d at k.
edge_parity :
    (xl xr k : ℕ) (u v c : Bool) → xl ≤ xr → (xl < k → xr ≡ k → c ≡ v) → (xl ≡ k → k < xr → c ≡ u) →
    (one ((leb xl k && ltb k xr) && c) + one ((ltb xl k && leb k xr) && c) + one ((eqb xl k && eqb xr k) && xor u v)) % 2 ≡
    one (xor (eqb xl k && u) (eqb xr k && v))
unfolding xor
edge_parity xl xr k u v c order at_right at_left =
    ⊎_elim (λ l. ⊎_elim (λ r. outside_left l r) (⊎_elim (λ r. ends l r) (λ r. over l r)) (compare3 xr k))
    (⊎_elim (λ l. ⊎_elim (λ r. absurd (omega arith)) (⊎_elim (λ r. upright l r) (λ r. begins l r)) (compare3 xr k))
    (λ l. outside_right l))
    (compare3 xl k)
  where
    Goal : Type 0
    Goal =
        (one ((leb xl k && ltb k xr) && c) + one ((ltb xl k && leb k xr) && c) + one ((eqb xl k && eqb xr k) && xor u v)) % 2 ≡
        one (xor (eqb xl k && u) (eqb xr k && v))

    outside_left : xl < k → xr < k → Goal
    outside_left l r =
        let l' : xl ≤ k = omega arith in
        let r' : xr ≤ k = omega arith in
        rw (le-leb xl k l', le-ltb k xr r', lt-ltb xl k l, lt-leb k xr r, less_not_equal xl k l, less_not_equal xr k r) refl

    ends : xl < k → xr ≡ k → Goal
    ends l r =
        let l' : xl ≤ k = omega arith in
        let r' : xr ≤ k = omega arith in
        let r'' : k ≤ xr = omega arith in
        rw (le-leb xl k l', le-ltb k xr r', lt-ltb xl k l, le-leb k xr r'', less_not_equal xl k l, eq-eqb xr k r, at_right l r) (fin v)
      where
        fin : (v : Bool) → (0 + one v + 0) % 2 ≡ one (xor false v)
        fin true = refl
        fin false = refl

    over : xl < k → k < xr → Goal
    over l r =
        let l' : xl ≤ k = omega arith in
        let r' : k ≤ xr = omega arith in
        rw (le-leb xl k l', lt-ltb k xr r, lt-ltb xl k l, le-leb k xr r', less_not_equal xl k l, more_not_equal xr k r) (fin c)
      where
        fin : (c : Bool) → (one c + one c + 0) % 2 ≡ 0
        fin true = refl
        fin false = refl

    upright : xl ≡ k → xr ≡ k → Goal
    upright l r =
        let l' : k ≤ xl = omega arith in
        let r' : xr ≤ k = omega arith in
        let l'' : xl ≤ k = omega arith in
        rw (le-leb xl k l'', le-ltb k xr r', le-ltb xl k l', eq-eqb xl k l, eq-eqb xr k r) (fin u v)
      where
        fin : (u v : Bool) → (0 + 0 + one (xor u v)) % 2 ≡ one (xor u v)
        fin true true = refl
        fin true false = refl
        fin false true = refl
        fin false false = refl

    begins : xl ≡ k → k < xr → Goal
    begins l r =
        let l' : k ≤ xl = omega arith in
        let l'' : xl ≤ k = omega arith in
        rw (le-leb xl k l'', lt-ltb k xr r, le-ltb xl k l', eq-eqb xl k l, more_not_equal xr k r, at_left l r) (fin u)
      where
        fin : (u : Bool) → (one u + 0 + 0) % 2 ≡ one (xor u false)
        fin true = refl
        fin false = refl

    outside_right : k < xl → Goal
    outside_right l =
        let l' : k ≤ xl = omega arith in
        let r : k < xr = omega arith in
        rw (lt-leb xl k l, le-ltb xl k l', more_not_equal xl k l, more_not_equal xr k r) refl

-- where an end of the edge lies at x = k, the edge is not above q/d there when the end is not
scaled_under : (y w d q : ℕ) → 0 < w → leb (y * w * d) (q * w) ≡ leb (y * d) q
scaled_under y w d q wide = ⊎_elim under over (le_or_lt (y * d) q)
  where
    under : y * d ≤ q → leb (y * w * d) (q * w) ≡ leb (y * d) q
    under l =
        let r : y * w * d ≤ q * w = omega (arith, mul-le-mul_right w l) in
        le-leb (y * w * d) (q * w) r ∙ sym (le-leb (y * d) q l)

    over : q < y * d → leb (y * w * d) (q * w) ≡ leb (y * d) q
    over l =
        let r : q * w < y * w * d = omega (arith, mul-lt-mul_of_pos_right l wide) in
        lt-leb (y * w * d) (q * w) r ∙ sym (lt-leb (y * d) q l)

height_right : (e : Edge) (k : ℕ) → e.xl ≤ e.xr → e.xr ≡ k → height e k 1 ≡ e.yr * width e
height_right e k order at =
    height_is e k 1 0 (width e) (omega arith) (omega arith) ∙ omega arith

height_left : (e : Edge) (k : ℕ) → e.xl ≤ e.xr → e.xl ≡ k → height e k 1 ≡ e.yl * width e
height_left e k order at =
    height_is e k 1 (width e) 0 (omega arith) (omega arith) ∙ omega arith

-- the end of an edge: at x = k and not above q/d
abbrev pub under_end : ℕ → ℕ → ℕ → ℕ → ℕ → Bool
under_end k q d x y = eqb x k && leb (y * d) q

module _ (k q d : ℕ) where
  edge_sides : (e : Edge) → e.xl ≤ e.xr →
      (one (right_under k q d e) + one (left_under k q d e) + one (passes_up k q d e)) % 2 ≡
      one (xor (under_end k q d e.xl e.yl) (under_end k q d e.xr e.yr))
  unfolding passes_up
  edge_sides e order =
      edge_parity e.xl e.xr k (leb (e.yl * d) q) (leb (e.yr * d) q) (leb (height e k 1 * d) (q * width e)) order
      (λ l r.
      ap (λ (h : ℕ). leb (h * d) (q * width e)) (height_right e k order r) ∙ scaled_under e.yr (width e) d q (omega arith))
      (λ l r.
      ap (λ (h : ℕ). leb (h * d) (q * width e)) (height_left e k order l) ∙ scaled_under e.yl (width e) d q (omega arith))

  between_sides : (x y x' y' : ℕ) →
      (one (right_under k q d (edge_between x y x' y')) + one (left_under k q d (edge_between x y x' y')) +
      one (passes_up k q d (edge_between x y x' y'))) % 2 ≡
      one (xor (under_end k q d x y) (under_end k q d x' y'))
  between_sides x y x' y' =
      ⊎_elim
      (λ h. rw (le-leb x x' h) (edge_sides (record { xl = x; yl = y; xr = x'; yr = y' }) h))
      (λ h.
      let g : x' ≤ x = omega arith in
      rw (lt-leb x x' h)
      (edge_sides (record { xl = x'; yl = y'; xr = x; yr = y }) g ∙
      ap one (xor_comm (under_end k q d x' y') (under_end k q d x y))))
      (le_or_lt x x')

count_parity : (f g h x : ℕ → Bool) (n : ℕ) → ((i : ℕ) → i < n → (one (f i) + one (g i) + one (h i)) % 2 ≡ one (x i)) →
    (count_to f n + count_to g n + count_to h n) % 2 ≡ count_to x n % 2
unfolding count_to
count_parity f g h x zero e = refl
count_parity f g h x (suc n) e =
    go (count_to f n) (count_to g n) (count_to h n) (count_to x n) (one (f n)) (one (g n)) (one (h n)) (one (x n))
    (count_parity f g h x n (λ i l. e i (omega arith))) (e n (omega arith))
  where
    go : (a b c s i j k t : ℕ) → (a + b + c) % 2 ≡ s % 2 → (i + j + k) % 2 ≡ t → (a + i + (b + j) + (c + k)) % 2 ≡ (s + t) % 2
    go a b c s i j k t e f = omega arith

-- right, left and up together are even
pub sides_even : (o : List ℕ) (k q d : ℕ) → 0 < sides o →
    (count_to (λ i. right_under k q d (edge_at o i)) (sides o) + count_to (λ i. left_under k q d (edge_at o i)) (sides o) +
    count_to (λ i. passes_up k q d (edge_at o i)) (sides o)) % 2 ≡ 0
unfolding edge_at
sides_even o k q d pos = go (sides o) pos
  where
    edge : ℕ → ℕ → Edge
    edge n i = edge_between (vx o i) (vy o i) (vx o (after n i)) (vy o (after n i))

    go : (n : ℕ) → 0 < n →
        (count_to (λ i. right_under k q d (edge_between (vx o i) (vy o i) (vx o (after n i)) (vy o (after n i)))) n +
        count_to (λ i. left_under k q d (edge_between (vx o i) (vy o i) (vx o (after n i)) (vy o (after n i)))) n +
        count_to (λ i. passes_up k q d (edge_between (vx o i) (vy o i) (vx o (after n i)) (vy o (after n i)))) n) % 2 ≡ 0
    go zero h = absurd (omega arith)
    go (suc n) h =
        count_parity (λ i. right_under k q d (edge (suc n) i)) (λ i. left_under k q d (edge (suc n) i)) (λ i. passes_up k q d (edge (suc n) i))
        (λ i. xor (under_end k q d (vx o i) (vy o i)) (under_end k q d (vx o (after (suc n) i)) (vy o (after (suc n) i)))) (suc n)
        (λ i l. between_sides k q d (vx o i) (vy o i) (vx o (after (suc n) i)) (vy o (after (suc n) i))) ∙
        closed (λ i. under_end k q d (vx o i) (vy o i)) n
