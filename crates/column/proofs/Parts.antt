-- A part of a neat slab: it is neat, and its entries are those of the slab with their heights got by lines.
-- The heights of an edge rise or fall by one whole number a unit, so dividing their difference by the slab's width is exact.
-- Assumes nothing.
use mathlib.Core.Path.{◌≡◌, ap, ap₂, sym, subst, ◌∙◌}
use mathlib.Core.Bool.{Bool, true, cond, ◌&&◌}
use mathlib.Core.Logic.{◌⊎◌, inl, inr, ⊎_elim}
use mathlib.Core.List.{List}
use Prim.Native.Nat.{ℕ, zero, suc, ◌+◌, ◌*◌, ◌-◌, ◌/◌, ◌≤◌, ◌<◌}
use native.Mathlib.Omega.{arith}
use native.Mathlib.Nat.{mul-le-mul_left, mul-lt-mul_of_pos_left, mul-div_cancel, div-mul-le_self}
use lib.ListN.{length, get_or, set}
use lib.Seq.{get_or-set_same, get_or-set_other}
use borrow.Author.Tests.{lt-ltb, le-ltb}
use Rattle.defs.specs.Meaning.Outline.{Edge, sides, edge_at, spans, width, height}
use Rattle.geom.proofs.Strip.{lt_or_le}
use Rattle.geom.proofs.Parity.{count_same}
use Rattle.geom.proofs.Line.{height_is, keeps}
use Rattle.slabs.specs.Slab.{Neat}
use Rattle.slabs.proofs.Lines.{slab_line}
use Rattle.entries.specs.Edges.{Fit, Loaded, AllFit, Rising}
use Rattle.entries.proofs.Entries.{below_one}
use Rattle.gaps.specs.Gaps.{Paired, SlabRow, Adds}
use Rattle.column.specs.Rows.{AddsPart, on_line, Heights, Parted}
use Rattle.gaps.proofs.Adding.{slab_adds}
use Rattle.section.proofs.Cuts.{reaches_left, reaches_right}

-- what the code computes in either case
pub line_up : (p q l d : ℕ) → p < q → p + (q - p) / l * d ≡ on_line p q l d
unfolding on_line
line_up p q l d h = sym (ap (λ (b : Bool). cond b (p + (q - p) / l * d) (p - (p - q) / l * d)) (lt-ltb p q h))

pub line_down : (p q l d : ℕ) → q ≤ p → p - (p - q) / l * d ≡ on_line p q l d
unfolding on_line
line_down p q l d h = sym (ap (λ (b : Bool). cond b (p + (q - p) / l * d) (p - (p - q) / l * d)) (le-ltb p q h))

-- the change at distance d is at most that at l
pub change_most : (n l d : ℕ) → d ≤ l → n / l * d ≤ n
change_most n l d h = omega (arith, mul-le-mul_left (n / l) h, div-mul-le_self n l)

pub line_most : (p q l d m : ℕ) → d ≤ l → p ≤ m → q ≤ m → on_line p q l d ≤ m
line_most p q l d m h a b =
    ⊎_elim (λ k. omega (arith, line_up p q l d k, change_most (q - p) l d h))
    (λ k. omega (arith, line_down p q l d k)) (lt_or_le p q)

-- where the line rises or falls by k a unit
line_rises : (p q l d k : ℕ) → 0 < l → q ≡ p + k * l → on_line p q l d ≡ p + k * d
line_rises p q l d k lp e =
    ⊎_elim
    (λ h.
    let f : q - p ≡ k * l = omega arith in
    sym (line_up p q l d h) ∙ ap (λ (n : ℕ). p + n * d) (ap (λ (n : ℕ). n / l) f ∙ mul-div_cancel k lp))
    (λ h.
    let f : p - q ≡ 0 * l = omega arith in
    let g = ap (λ (n : ℕ). n / l) f ∙ mul-div_cancel 0 lp in
    sym (line_down p q l d h) ∙ ap (λ (n : ℕ). p - n * d) g ∙ level k (omega arith))
    (lt_or_le p q)
  where
    level : (k : ℕ) → k * l ≡ 0 → p - 0 * d ≡ p + k * d
    level zero z = omega arith
    level (suc k) z = absurd (omega arith)

line_falls : (p q l d k : ℕ) → 0 < l → p ≡ q + k * l → on_line p q l d ≡ p - k * d
line_falls p q l d k lp e =
    let f : p - q ≡ k * l = omega arith in
    sym (line_down p q l d (omega arith)) ∙ ap (λ (n : ℕ). p - n * d) (ap (λ (n : ℕ). n / l) f ∙ mul-div_cancel k lp)

-- the line between the heights of an edge is the edge
pub line_height : (e : Edge) (a b l d : ℕ) → e.xl ≤ a → b ≤ e.xr → a + l ≡ b → 0 < l → d ≤ l →
    on_line (height e a 1) (height e b 1) l d ≡ height e (a + d) 1
line_height e a b l d left right ab lp dl = go (a - e.xl) (e.xr - b) (l - d) (omega arith) (omega arith) (omega arith)
  where
    go : (t s c : ℕ) → a ≡ e.xl + t → e.xr ≡ b + s → d + c ≡ l →
        on_line (height e a 1) (height e b 1) l d ≡ height e (a + d) 1
    go t s c ht hs hc =
        ⊎_elim (λ h. rises (e.yr - e.yl) (omega arith)) (λ h. falls (e.yl - e.yr) (omega arith)) (lt_or_le e.yl e.yr)
      where
        at_a : height e a 1 ≡ e.yl * (l + s) + e.yr * t
        at_a = height_is e a 1 (l + s) t (omega arith) (omega arith)

        at_b : height e b 1 ≡ e.yl * s + e.yr * (t + l)
        at_b = height_is e b 1 s (t + l) (omega arith) (omega arith)

        at_d : height e (a + d) 1 ≡ e.yl * (c + s) + e.yr * (t + d)
        at_d = height_is e (a + d) 1 (c + s) (t + d) (omega arith) (omega arith)

        rises : (k : ℕ) → e.yr ≡ e.yl + k → on_line (height e a 1) (height e b 1) l d ≡ height e (a + d) 1
        rises k f =
            line_rises (height e a 1) (height e b 1) l d k lp
            (omega (arith, at_a, at_b, ap (λ (n : ℕ). n * l) f))
            ∙ omega (arith, at_a, at_d, ap (λ (n : ℕ). n * d) f, ap (λ (n : ℕ). e.yl * n) hc)

        falls : (k : ℕ) → e.yl ≡ e.yr + k → on_line (height e a 1) (height e b 1) l d ≡ height e (a + d) 1
        falls k f =
            line_falls (height e a 1) (height e b 1) l d k lp
            (omega (arith, at_a, at_b, ap (λ (n : ℕ). n * l) f))
            ∙ omega (arith, at_a, at_d, ap (λ (n : ℕ). n * d) f, ap (λ (n : ℕ). e.yl * n) hc)

-- the part of a neat slab from a to b
module _ {v : List ℕ} {a b : ℕ} (s : Neat v a b) where
  right_end : (i : ℕ) → i < sides v → spans (edge_at v i) a ≡ true → b ≤ (edge_at v i).xr
  right_end i l e = let z = s.wide in reaches_right (edge_at v i) a b z (s.steady i (b - 1) l (omega arith) (omega arith)) e

  -- not strictly lower at one place and strictly higher at another: the heights there are means of those at a and b
  part_order : (i j : ℕ) → i < sides v → j < sides v → spans (edge_at v i) a ≡ true → spans (edge_at v j) a ≡ true →
      (x y : ℕ) → a ≤ x → x ≤ b → a ≤ y → y ≤ b →
      height (edge_at v i) x 1 * width (edge_at v j) < height (edge_at v j) x 1 * width (edge_at v i) →
      height (edge_at v j) y 1 * width (edge_at v i) < height (edge_at v i) y 1 * width (edge_at v j) → ⊥
  part_order i j li lj si sj x y ax xb ay yb p q =
      go (x - a) (b - x) (y - a) (b - y) (omega arith) (omega arith) (omega arith) (omega arith)
    where
      on : (g : ℕ) → g < sides v → spans (edge_at v g) a ≡ true → (z d c : ℕ) → a + d ≡ z → z + c ≡ b →
          (c + d) * height (edge_at v g) z 1 ≡ c * height (edge_at v g) a 1 + d * height (edge_at v g) b 1
      on g l e z d c h k = slab_line (edge_at v g) a b z c d (reaches_left (edge_at v g) a e) (right_end g l e) h k

      go : (d c f e : ℕ) → a + d ≡ x → x + c ≡ b → a + f ≡ y → y + e ≡ b → ⊥
      go d c f e hd hc hf he =
          apart (height (edge_at v i) a 1) (height (edge_at v i) b 1) (height (edge_at v j) a 1) (height (edge_at v j) b 1)
          (height (edge_at v i) x 1) (height (edge_at v j) x 1) (height (edge_at v i) y 1) (height (edge_at v j) y 1)
          (width (edge_at v i)) (width (edge_at v j)) d c f e (omega (arith, s.wide)) (omega (arith, s.wide))
          (on i li si x d c hd hc) (on j lj sj x d c hd hc) (on i li si y f e hf he) (on j lj sj y f e hf he)
          (s.order j i lj li sj si) (s.order i j li lj si sj) p q
        where
          apart : (A A' B B' P Q P' Q' u w d c f e : ℕ) → 0 < c + d → 0 < e + f →
              (c + d) * P ≡ c * A + d * A' → (c + d) * Q ≡ c * B + d * B' → (e + f) * P' ≡ e * A + f * A' → (e + f) * Q' ≡ e * B + f * B' →
              (B * u < A * w → A' * w < B' * u → ⊥) → (A * w < B * u → B' * u < A' * w → ⊥) →
              P * w < Q * u → Q' * u < P' * w → ⊥
          apart A A' B B' P Q P' Q' u w d c f e cd ef hP hQ hP' hQ' n m p q =
              let k =
              keeps (A * w) (A' * w) (B * u) (B' * u) c d n m
              (omega (arith, ap (λ (n : ℕ). n * w) hP, ap (λ (n : ℕ). n * u) hQ, mul-lt-mul_of_pos_left p cd))
              in
              omega (arith, ap (λ (n : ℕ). n * w) hP', ap (λ (n : ℕ). n * u) hQ', mul-lt-mul_of_pos_left q ef, mul-le-mul_left e k.0, mul-le-mul_left f k.1)

  pub part_neat : {x y : ℕ} → a ≤ x → x < y → y ≤ b → Neat v x y
  part_neat {x} {y} ax xy yb =
      record {
        wide = xy;
        steady = λ i k l f t. s.steady i k l (omega arith) (omega arith) ∙ sym (s.steady i x l ax (omega arith));
        order = λ i j li lj si sj.
            part_order i j li lj (sym (s.steady i x li ax (omega arith)) ∙ si) (sym (s.steady j x lj ax (omega arith)) ∙ sj) x y ax (omega arith) (omega arith) yb;
      }

-- the heights of a part, entry by entry
pub parted_none : (h0 h1 : List ℕ) (l d0 d1 : ℕ) (g0 g1 : List ℕ) → Parted h0 h1 l d0 d1 g0 g1 0
parted_none h0 h1 l d0 d1 g0 g1 = record { left = λ x h. absurd (omega arith); right = λ x h. absurd (omega arith) }

pub parted_more : {h0 h1 g0 g1 : List ℕ} {l d0 d1 x r s : ℕ} → Parted h0 h1 l d0 d1 g0 g1 x → x < length g0 → x < length g1 →
    r ≡ on_line (get_or h0 x 0) (get_or h1 x 0) l d0 → s ≡ on_line (get_or h0 x 0) (get_or h1 x 0) l d1 → Parted h0 h1 l d0 d1 (set g0 x r) (set g1 x s) (x + 1)
parted_more {h0} {h1} {g0} {g1} {l} {d0} {d1} {x} {r} {s} p k0 k1 er es =
    record { left = λ y h. stored g0 r d0 k0 er p.left y (below_one h); right = λ y h. stored g1 s d1 k1 es p.right y (below_one h) }
  where
    stored : (g : List ℕ) (r d : ℕ) → x < length g → r ≡ on_line (get_or h0 x 0) (get_or h1 x 0) l d →
        ((y : ℕ) → y < x → get_or g y 0 ≡ on_line (get_or h0 y 0) (get_or h1 y 0) l d) →
        (y : ℕ) → (y < x) ⊎ (y ≡ x) → get_or (set g x r) y 0 ≡ on_line (get_or h0 y 0) (get_or h1 y 0) l d
    stored g r d k e f y (inl h) = get_or-set_other g x y r 0 (omega arith) ∙ f y h
    stored g r d k e f y (inr h) =
        subst (λ (n : ℕ). get_or (set g x r) n 0 ≡ on_line (get_or h0 n 0) (get_or h1 n 0) l d) (sym h) (get_or-set_same g x r 0 k ∙ e)

pub parted_end : {h0 h1 g0 g1 : List ℕ} {l d0 d1 x m : ℕ} → Parted h0 h1 l d0 d1 g0 g1 x → x ≡ m → Parted h0 h1 l d0 d1 g0 g1 m
parted_end {h0} {h1} {g0} {g1} {l} {d0} {d1} p e = subst (λ (n : ℕ). Parted h0 h1 l d0 d1 g0 g1 n) e p

pub heights_of : {h0 h1 w : List ℕ} {m : ℕ} → AllFit h0 h1 w m → Heights h0 h1 m
heights_of f =
    record { left = λ x h. (f.each x h).left; right = λ x h. (f.each x h).right; few = f.few; long0 = f.long0; long1 = f.long1 }

module _ {h0 h1 w g0 g1 : List ℕ} {m l d0 d1 : ℕ} (p : Parted h0 h1 l d0 d1 g0 g1 m) (k0 : d0 ≤ l) (k1 : d1 ≤ l) where
  part_fits : ((x : ℕ) → x < m → Fit h0 h1 w x) → (x : ℕ) → x < m → Fit g0 g1 w x
  part_fits f x h =
      let e = f x h in
      record {
        left = omega (arith, p.left x h, line_most (get_or h0 x 0) (get_or h1 x 0) l d0 256000000 k0 e.left e.right);
        right = omega (arith, p.right x h, line_most (get_or h0 x 0) (get_or h1 x 0) l d1 256000000 k1 e.left e.right);
        some = e.some;
        wide = e.wide;
      }

  pub part_all_fit : AllFit h0 h1 w m → length g0 ≡ 64 → length g1 ≡ 64 → AllFit g0 g1 w m
  part_all_fit f e0 e1 = record { each = part_fits f.each; few = f.few; long0 = e0; long1 = e1; longw = f.longw }

  -- the entries of the part from x0 to x1
  part_loaded : {v : List ℕ} {a b x0 x1 : ℕ} → Neat v a b → Loaded v a b h0 h1 w (sides v) m → a + l ≡ b → a + d0 ≡ x0 → a + d1 ≡ x1 → d0 < l →
      Loaded v x0 x1 g0 g1 w (sides v) m
  part_loaded {v} {a} {b} {x0} {x1} s q el e0 e1 k =
      record {
        idx = q.idx;
        most = q.most;
        at = λ x h.
            let e = q.at x h in
            record {
              here = e.here;
              edge = same (q.idx x) e.here ∙ e.edge;
              left = p.left x h ∙ on d0 x0 k0 e0 x h;
              right = p.right x h ∙ on d1 x1 k1 e1 x h;
              wide = e.wide;
            };
        fits = part_fits q.fits;
        onto = λ g h t. q.onto g h (sym (same g h) ∙ t);
        count = λ f. count_same _ _ (sides v) (λ g h. ap (λ (c : Bool). c && f g) (same g h)) ∙ q.count f;
      }
    where
      same : (g : ℕ) → g < sides v → spans (edge_at v g) x0 ≡ spans (edge_at v g) a
      same g h = s.steady g x0 h (omega arith) (omega arith)

      on : (d z : ℕ) → d ≤ l → a + d ≡ z → (x : ℕ) → x < m → on_line (get_or h0 x 0) (get_or h1 x 0) l d ≡ height (edge_at v (q.idx x)) z 1
      on d z kd e x h =
          let t = q.at x h in
          ap₂ (λ (y z : ℕ). on_line y z l d) t.left t.right
          ∙ line_height (edge_at v (q.idx x)) a b l d (reaches_left (edge_at v (q.idx x)) a t.edge) (right_end s (q.idx x) t.here t.edge) el (omega arith) kd
          ∙ ap (λ (n : ℕ). height (edge_at v (q.idx x)) n 1) e

  -- heights that rise at both sides rise in between
  part_rising : {g : List ℕ} {d : ℕ} → ((x : ℕ) → x < m → get_or g x 0 ≡ on_line (get_or h0 x 0) (get_or h1 x 0) l d) → d ≤ l → 0 < l →
      {v : List ℕ} {a b : ℕ} → Neat v a b → Loaded v a b h0 h1 w (sides v) m → a + l ≡ b → Rising h0 w m → Rising h1 w m → Rising g w m
  part_rising {g} {d} is dl lp {v} {a} {b} s q el r0 r1 =
      record {
        order = λ x y n k.
            go (l - d) (get_or g x 0) (get_or g y 0) (get_or h0 x 0) (get_or h1 x 0) (get_or h0 y 0) (get_or h1 y 0) (get_or w x 0) (get_or w y 0) (omega arith) (line x (omega arith) (l - d) (omega arith)) (line y k (l - d) (omega arith)) (r0.order x y n k) (r1.order x y n k);
      }
    where
      line : (x : ℕ) → x < m → (c : ℕ) → c + d ≡ l → (c + d) * get_or g x 0 ≡ c * get_or h0 x 0 + d * get_or h1 x 0
      line x h c e =
          let t = q.at x h in
          let f = edge_at v (q.idx x) in
          let left = reaches_left f a t.edge in
          let right = right_end s (q.idx x) t.here t.edge in
          ap (λ (n : ℕ). (c + d) * n)
          (is x h ∙ ap₂ (λ (y z : ℕ). on_line y z l d) t.left t.right ∙ line_height f a b l d left right el lp dl)
          ∙ slab_line f a b (a + d) c d left right (omega arith) (omega arith)
          ∙ ap₂ (λ (y z : ℕ). c * y + d * z) (sym t.left) (sym t.right)

      go : (c P Q A A' B B' u z : ℕ) → c + d ≡ l → (c + d) * P ≡ c * A + d * A' → (c + d) * Q ≡ c * B + d * B' → A * z ≤ B * u → A' * z ≤ B' * u → P * z ≤ Q * u
      go c P Q A A' B B' u z e hP hQ n k =
          let cp : 0 < c + d = omega arith in
          ⊎_elim
          (λ i.
          absurd
          (omega (arith, mul-lt-mul_of_pos_left i cp, ap (λ (n : ℕ). n * z) hP, ap (λ (n : ℕ). n * u) hQ, mul-le-mul_left c n, mul-le-mul_left d k)))
          (λ i. i) (lt_or_le (Q * u) (P * z))

  pub part_adds : {a b x0 x1 : ℕ} {lo hi lo' hi' : List ℕ} {n r : ℕ} → a + l ≡ b → a + d0 ≡ x0 → a + d1 ≡ x1 → d0 < l →
      Adds (Paired g0 g1 w m) lo hi lo' hi' n r → AddsPart h0 h1 w a b m x0 x1 lo hi lo' hi' n r
  part_adds el e0 e1 k t =
      record {
        rows = λ v q.
            slab_adds (part_loaded q.neat q.loaded el e0 e1 k)
            (part_rising p.left k0 (omega arith) q.neat q.loaded el q.left q.right)
            (part_rising p.right k1 (omega arith) q.neat q.loaded el q.left q.right) t;
      }

-- the whole slab
pub whole_adds : {h0 h1 w : List ℕ} {m a b x0 x1 : ℕ} {lo hi lo' hi' : List ℕ} {n r : ℕ} → a ≡ x0 → x1 ≡ b →
    Adds (Paired h0 h1 w m) lo hi lo' hi' n r → AddsPart h0 h1 w a b m x0 x1 lo hi lo' hi' n r
whole_adds {a = a} {b = b} {x0 = x0} {x1 = x1} {lo = lo} {hi = hi} {lo' = lo'} {hi' = hi'} {n = n} {r = r} e f t =
    record {
      rows = λ v q.
          subst (λ (x : ℕ). Adds (SlabRow v x x1) lo hi lo' hi' n r) e
          (subst (λ (y : ℕ). Adds (SlabRow v a y) lo hi lo' hi' n r) (sym f) (slab_adds q.loaded q.left q.right t));
    }
