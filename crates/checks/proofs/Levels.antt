-- Two edges, one nowhere above the other, do not change order.
-- Assumes nothing.
use mathlib.Core.Path.{◌≡◌, refl, ap, sym, ◌∙◌}
use mathlib.Core.Bool.{Bool, true, false, cond, ◌&&◌, ◌||◌, and-false}
use mathlib.Core.Logic.{inl, inr, ⊎_elim}
use mathlib.Core.List.{List}
use Prim.Native.Nat.{ℕ, ◌+◌, ◌*◌, ◌-◌, ◌≤◌, ◌<◌, min, max}
use native.Mathlib.Omega.{arith}
use native.Mathlib.Nat.{mul-le-mul_right, mul-one}
use lib.Dec.{ltb, leb}
use borrow.Author.Tests.{le-ltb, leb-true, leb-false}
use Rattle.defs.specs.Meaning.Outline.{vx, sides, Edge, edge_at, edge_between, width, height}
use Rattle.defs.specs.Meaning.Turn.{turned}
use Rattle.defs.specs.Computing.Vertices.{read_x, read_y}
use Rattle.geom.proofs.Strip.{lt_or_le}
use Rattle.slabs.specs.Change.{passesb, crossesb, changesb}
use Rattle.outline.specs.declared.Frame.{Frame}
use Rattle.outline.specs.Vertex.{Lent, FrameOf, VertexOf, SideOf, Small, edge_of}
use Rattle.outline.proofs.Vertices.{after_is, edge_is, side_next, turned_x, vertex_from}
use Rattle.checks.specs.Order.{Outside}

-- at both ends of the common span the first is not above the second
stays : (a0 b0 a1 b1 l : ℕ) → a0 ≤ b0 → a1 ≤ b1 → (crossesb a0 b0 a1 b1 l ≡ false) × (crossesb b0 a0 b1 a1 l ≡ false)
unfolding crossesb passesb
stays a0 b0 a1 b1 l h k = (rw (le-ltb b0 a0 h, le-ltb b1 a1 k) (none (ltb a0 b0)), rw (le-ltb b0 a0 h, le-ltb b1 a1 k) (one (ltb a0 b0)))
  where
    none : (b : Bool) → ((b && false) || false) ≡ false
    none true = refl
    none false = refl

    one : (b : Bool) → (false || (b && false)) ≡ false
    one true = refl
    one false = refl

module _ {xl yl xr yr x : ℕ} (s : Small xl yl xr yr) (l : xl ≤ x) (r : x ≤ xr) where
  abbrev e : Edge
  e = edge_of xl yl xr yr

  parts : (x - xl) + (xr - x) ≡ width e
  parts = omega arith

  pub height_most : height e x 1 ≤ max yl yr * width e
  unfolding height
  height_most =
      let a : yl ≤ max yl yr = omega arith in
      let b : yr ≤ max yl yr = omega arith in
      rw (mul-one xr, mul-one xl, ← parts) (omega (arith, mul-le-mul_right (xr - x) a, mul-le-mul_right (x - xl) b))

  pub height_least : min yl yr * width e ≤ height e x 1
  unfolding height
  height_least =
      let a : min yl yr ≤ yl = omega arith in
      let b : min yl yr ≤ yr = omega arith in
      rw (mul-one xr, mul-one xl, ← parts) (omega (arith, mul-le-mul_right (xr - x) a, mul-le-mul_right (x - xl) b))

-- e is nowhere above f
module _ {xl yl xr yr xl' yl' xr' yr' : ℕ} (s : Small xl yl xr yr) (s' : Small xl' yl' xr' yr') (u : max yl yr ≤ min yl' yr') where
  abbrev low : Edge
  low = edge_of xl yl xr yr

  abbrev high : Edge
  high = edge_of xl' yl' xr' yr'

  level : (h h' w w' m m' : ℕ) → m ≤ m' → h ≤ m * w → m' * w' ≤ h' → h * w' ≤ h' * w
  level h h' w w' m m' k p q = omega (arith, mul-le-mul_right w' p, mul-le-mul_right w q, mul-le-mul_right (w * w') k)

  at : (x : ℕ) → max xl xl' ≤ x → x ≤ min xr xr' → height low x 1 * width high ≤ height high x 1 * width low
  at x a b =
      level (height low x 1) (height high x 1) (width low) (width high) (max yl yr) (min yl' yr') u
      (height_most s (omega arith) (omega arith)) (height_least s' (omega arith) (omega arith))

  abbrev a : ℕ
  a = max xl xl'

  abbrev b : ℕ
  b = min xr xr'

  ends : a < b → (l : ℕ) → (crossesb (height low a 1 * width high) (height high a 1 * width low) (height low b 1 * width high) (height high b 1 * width low) l ≡ false)
      × (crossesb (height high a 1 * width low) (height low a 1 * width high) (height high b 1 * width low) (height low b 1 * width high) l ≡ false)
  ends h l = stays _ _ _ _ l (at a (omega arith) (omega arith)) (at b (omega arith) (omega arith))

  pub under_first : false ≡ changesb low high
  unfolding changesb
  under_first =
      ⊎_elim (λ h. rw (ends h (b - a)).0 (sym (and-false (ltb a b)))) (λ h. rw (le-ltb a b h) refl) (lt_or_le a b)

  pub under_second : false ≡ changesb high low
  unfolding changesb
  under_second =
      let p : max xl' xl ≡ a = omega arith in
      let q : min xr' xr ≡ b = omega arith in
      rw (p, q) (⊎_elim (λ h. rw (ends h (b - a)).1 (sym (and-false (ltb a b)))) (λ h. rw (le-ltb a b h) refl) (lt_or_le a b))

-- an edge e between heights lo and hi, and one that is not beside it
module _ {xl yl xr yr lo hi : ℕ} (s : Small xl yl xr yr) (el : lo ≡ min yl yr) (eh : hi ≡ max yl yr) where
  outside : {xl' yl' xr' yr' : ℕ} → Small xl' yl' xr' yr' → Outside lo hi yl' yr' → false ≡ changesb (edge_of xl yl xr yr) (edge_of xl' yl' xr' yr')
  outside s' k = ⊎_elim (λ u. under_second s' s (omega arith)) (λ u. under_first s s' (omega arith)) k.is

  swapped : {p q : ℕ} → Outside lo hi p q → Outside lo hi q p
  swapped k = record { is = ⊎_elim (λ u. inl (omega arith)) (λ u. inr (omega arith)) k.is }

  outside_between : (x p x' q : ℕ) → x ≤ 16000 → p ≤ 16000 → x' ≤ 16000 → q ≤ 16000 → Outside lo hi p q →
      false ≡ changesb (edge_of xl yl xr yr) (edge_between x p x' q)
  outside_between x p x' q a b c d k = go (leb x x') refl
    where
      go : (t : Bool) → leb x x' ≡ t → false ≡ changesb (edge_of xl yl xr yr) (cond t (edge_of x p x' q) (edge_of x' q x p))
      go true h = outside (record { order = leb-true x x' h; right_most = c; yl_most = b; yr_most = d }) k
      go false h = outside (record { order = omega (arith, leb-false x x' h); right_most = a; yl_most = d; yr_most = b }) (swapped k)

  module _ {o : List ℕ} {f : Frame} {p q : ℕ} (j : ℕ) (lent : Lent o) (frame : FrameOf o f) (n : j + 1 < sides o)
      (ep : p ≡ read_y o f.turn j) (eq : q ≡ read_y o f.turn (j + 1)) where
    here : {x : ℕ} → x ≡ vx (turned o f.turn) j → VertexOf o f.turn j x p
    here ex = vertex_from lent frame.turn (omega arith) ex ep

    next : {x : ℕ} → x ≡ vx (turned o f.turn) (j + 1) → VertexOf o f.turn (j + 1) x q
    next ex = vertex_from lent frame.turn n ex eq

    pub not_beside : Outside lo hi p q → false ≡ changesb (edge_of xl yl xr yr) (edge_at (turned o f.turn) j)
    not_beside k =
        let u = here refl in
        let v = next refl in
        outside_between _ p _ q u.x_most u.y_most v.x_most v.y_most k ∙
        ap (changesb (edge_of xl yl xr yr)) (sym (edge_is (after_is (sides o) j n) u v))

    -- edge j, by what is read of its x
    pub edge_read : {x x' xl' yl' xr' yr' : ℕ} → x ≡ read_x o f.turn j → x' ≡ read_x o f.turn (j + 1) →
        edge_of xl' yl' xr' yr' ≡ edge_between x p x' q → SideOf o f.turn j xl' yl' xr' yr'
    edge_read ex ex' = side_next n (here (turned_x frame (omega arith) ex)) (next (turned_x frame n ex'))
