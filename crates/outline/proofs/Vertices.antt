-- Bounds, vertices and edges of a turned outline.
-- Assumes nothing.
use mathlib.Core.Path.{◌≡◌, refl, ap, ap₂, sym, subst, ◌∙◌}
use mathlib.Core.Bool.{Bool, true, false, cond}
use mathlib.Core.List.{List}
use Prim.Native.Nat.{ℕ, suc, ◌+◌, ◌*◌, ◌-◌, ◌%◌, ◌≤◌, ◌<◌, min, max}
use native.Mathlib.Omega.{arith}
use lib.ListN.{get_or}
use lib.Dec.{leb}
use borrow.Author.Tests.{leb-true, leb-false, ne_eqb}
use Rattle.defs.specs.Meaning.Outline.{vx, vy, sides, after, Edge, edge_at, edge_between}
use Rattle.defs.specs.Meaning.Turn.{turned}
use Rattle.defs.specs.Computing.Vertices.{least_n, most_n, corner_x, corner_y, distance, read_x, read_y}
use Rattle.laws.proofs.Vertices.{read_x_lem, read_y_lem}
use Rattle.geom.proofs.Extent.{sides_turned}
use Rattle.outline.specs.Vertex.{Lent, BoundsOf, FrameOf, VertexOf, SideOf, Small, edge_of}
use Rattle.outline.specs.declared.Bounds.{Bounds}
use Rattle.outline.specs.declared.Frame.{Frame}
use Rattle.outline.proofs.Limit.{vertex_limit}

pub least_one : (f : ℕ → ℕ) → f 0 ≡ least_n f (1 - 1)
unfolding least_n
least_one f = refl

pub most_one : (f : ℕ → ℕ) → f 0 ≡ most_n f (1 - 1)
unfolding most_n
most_one f = refl

pub least_more : {a b : ℕ} (f : ℕ → ℕ) (i : ℕ) → 1 ≤ i → a ≡ least_n f (i - 1) → b ≡ min a (f i) → b ≡ least_n f (i + 1 - 1)
unfolding least_n
least_more {a} f i h p q =
    let e : i + 1 - 1 ≡ suc (i - 1) = omega arith in
    let g : suc (i - 1) ≡ i = omega arith in
    q ∙ ap (λ (m : ℕ). min m (f i)) p ∙ sym (ap (least_n f) e ∙ ap (λ (x : ℕ). min (least_n f (i - 1)) (f x)) g)

pub most_more : {a b : ℕ} (f : ℕ → ℕ) (i : ℕ) → 1 ≤ i → a ≡ most_n f (i - 1) → b ≡ max a (f i) → b ≡ most_n f (i + 1 - 1)
unfolding most_n
most_more {a} f i h p q =
    let e : i + 1 - 1 ≡ suc (i - 1) = omega arith in
    let g : suc (i - 1) ≡ i = omega arith in
    q ∙ ap (λ (m : ℕ). max m (f i)) p ∙ sym (ap (most_n f) e ∙ ap (λ (x : ℕ). max (most_n f (i - 1)) (f x)) g)

-- the frame of a turn, by the corner that the turn takes to (0, 0)
pub frame_at : {o : List ℕ} {t x y : ℕ} {p : ℕ × ℕ} (n : ℕ) → t ≡ n → n ≤ 3 → p ≡ (x, y) → x ≡ corner_x o n → y ≡ corner_y o n →
    FrameOf o (record { turn = t; x = p.0; y = p.1; word = t % 2 })
frame_at {o} n e m is ex ey =
    record {
      turn = omega arith;
      x = ap (λ (q : ℕ × ℕ). q.0) is ∙ ex ∙ ap (corner_x o) (sym e);
      y = ap (λ (q : ℕ × ℕ). q.1) is ∙ ey ∙ ap (corner_y o) (sym e);
      word = refl;
    }

-- what is read by a frame
module _ {o : List ℕ} {f : Frame} (k : FrameOf o f) (i : ℕ) where
  word : (c : ℕ) {a b : ℕ} → a ≡ b → distance c (get_or o a 0) ≡ distance c (get_or o b 0)
  word c e = ap (λ (a : ℕ). distance c (get_or o a 0)) e

  pub reads_x : {r : ℕ} → r ≡ distance f.x (get_or o (2 * i + f.word) 0) → r ≡ read_x o f.turn i
  unfolding read_x
  reads_x e = e ∙ ap (λ (c : ℕ). distance c (get_or o (2 * i + f.word) 0)) k.x ∙ word _ (omega (arith, k.word))

  pub reads_y : {r : ℕ} → r ≡ distance f.y (get_or o (2 * i + (1 - f.word)) 0) → r ≡ read_y o f.turn i
  unfolding read_y
  reads_y e = e ∙ ap (λ (c : ℕ). distance c (get_or o (2 * i + (1 - f.word)) 0)) k.y ∙ word _ (omega (arith, k.word))

-- what is read is the vertex of the turned outline
pub turned_x : {o : List ℕ} {f : Frame} {i x : ℕ} → FrameOf o f → i < sides o → x ≡ read_x o f.turn i → x ≡ vx (turned o f.turn) i
turned_x {o} {f} {i} k s e = e ∙ read_x_lem o i s f.turn k.turn

-- a vertex by its x, known before, and what is read of its y
pub vertex_from : {o : List ℕ} {t i x y : ℕ} → Lent o → t ≤ 3 → i < sides o → x ≡ vx (turned o t) i → y ≡ read_y o t i → VertexOf o t i x y
vertex_from {o} {t} {i} lent turn s across e =
    let l = vertex_limit lent t turn i s in
    let up = e ∙ read_y_lem o i s t turn in
    record { across = across; up = up; x_most = omega (arith, across, l.0); y_most = omega (arith, up, l.1) }

pub vertex_read : {o : List ℕ} {f : Frame} {i x y : ℕ} → Lent o → FrameOf o f → i < sides o → x ≡ read_x o f.turn i →
    y ≡ read_y o f.turn i → VertexOf o f.turn i x y
vertex_read lent k s e = vertex_from lent k.turn s (turned_x k s e)

-- the vertex after i, if i is not the last, is vertex i + 1
pub after_is : (n i : ℕ) → i + 1 < n → i + 1 ≡ after n i
after_is n i h = sym (ap (λ (b : Bool). cond b 0 (i + 1)) (ne_eqb (i + 1) n (omega arith)))

pub vertex_after : {o : List ℕ} {t j x y : ℕ} (n i : ℕ) → j ≡ after n i → VertexOf o t j x y → i + 1 < n → VertexOf o t (i + 1) x y
vertex_after {o} {t} {x = x} {y = y} n i e v h = subst (λ (k : ℕ). VertexOf o t k x y) (e ∙ sym (after_is n i h)) v

-- In either order of its ends an edge is within the limits.
pub small_edge : (xa ya xb yb : ℕ) → xa ≤ 16000 → ya ≤ 16000 → xb ≤ 16000 → yb ≤ 16000 → {xl yl xr yr : ℕ} →
    edge_of xl yl xr yr ≡ edge_between xa ya xb yb → Small xl yl xr yr
small_edge xa ya xb yb ax ay bx by' e = subst Fits (sym e) (ends_fit (leb xa xb) refl)
  where
    Fits : Edge → Type 0
    Fits e = Small e.xl e.yl e.xr e.yr

    ends_fit : (b : Bool) → leb xa xb ≡ b → Fits (cond b (edge_of xa ya xb yb) (edge_of xb yb xa ya))
    ends_fit true h = record { order = leb-true xa xb h; right_most = bx; yl_most = ay; yr_most = by' }
    ends_fit false h = record { order = omega (arith, leb-false xa xb h); right_most = ax; yl_most = by'; yr_most = ay }

-- edge i by its ends
module _ {o : List ℕ} {t i j xa ya xb yb : ℕ} (hj : j ≡ after (sides o) i) (u : VertexOf o t i xa ya) (v : VertexOf o t j xb yb) where
  pub edge_is : edge_at (turned o t) i ≡ edge_between xa ya xb yb
  unfolding edge_at
  edge_is =
      ap (λ (n : ℕ). edge_between (vx (turned o t) i) (vy (turned o t) i) (vx (turned o t) (after n i)) (vy (turned o t) (after n i))) (sides_turned o t)
      ∙ ap (λ (j : ℕ). edge_between (vx (turned o t) i) (vy (turned o t) i) (vx (turned o t) j) (vy (turned o t) j)) (sym hj)
      ∙ ap₂ (λ (x y : ℕ). edge_between x y (vx (turned o t) j) (vy (turned o t) j)) (sym u.across) (sym u.up)
      ∙ ap₂ (λ (x y : ℕ). edge_between xa ya x y) (sym v.across) (sym v.up)

  pub side_between : {xl yl xr yr : ℕ} → edge_of xl yl xr yr ≡ edge_between xa ya xb yb → SideOf o t i xl yl xr yr
  side_between e =
      let s = small_edge xa ya xb yb u.x_most u.y_most v.x_most v.y_most e in
      record { is = e ∙ sym edge_is; order = s.order; right_most = s.right_most; yl_most = s.yl_most; yr_most = s.yr_most }

-- the edge from vertex i to vertex i + 1
pub side_next : {o : List ℕ} {t i xa ya xb yb xl yl xr yr : ℕ} → i + 1 < sides o → VertexOf o t i xa ya → VertexOf o t (i + 1) xb yb → edge_of xl yl xr yr ≡ edge_between xa ya xb yb → SideOf o t i xl yl xr yr
side_next {o} {t} {i} h u v e = side_between (after_is (sides o) i h) u v e

pub all_bounds : (o : List ℕ) {i : ℕ} {b : Bounds} → i ≡ sides o → b.left ≡ least_n (vx o) (i - 1) → b.right ≡ most_n (vx o) (i - 1) →
    b.foot ≡ least_n (vy o) (i - 1) → b.head ≡ most_n (vy o) (i - 1) → BoundsOf o b
all_bounds o e l r f h =
    record {
      left = l ∙ ap (λ (n : ℕ). least_n (vx o) (n - 1)) e;
      right = r ∙ ap (λ (n : ℕ). most_n (vx o) (n - 1)) e;
      foot = f ∙ ap (λ (n : ℕ). least_n (vy o) (n - 1)) e;
      head = h ∙ ap (λ (n : ℕ). most_n (vy o) (n - 1)) e;
    }
