-- Which cells of a unit column are covered, by the order of the edges in it.
-- Assumes nothing.
use mathlib.Core.Path.{◌≡◌, refl, ap, ap₂, sym, ◌∙◌, subst₂}
use mathlib.Core.Bool.{Bool, true, false, ◌&&◌}
use mathlib.Core.List.{List}
use Prim.Native.Nat.{ℕ, ◌+◌, ◌*◌, ◌-◌, ◌/◌, ◌%◌, ◌<◌}
use native.Mathlib.Omega.{arith}
use native.Mathlib.Nat.{mul-pos}
use lib.Dec.{ltb, leb, eqb}
use lib.Arith.{digits_div, digits_mod}
use borrow.Author.Tests.{lt-ltb, ltb-true, leb-true, ne_eqb, eq-eqb}
use Rattle.laws.proofs.Tests.{and_left, and_right}
use Rattle.defs.specs.Meaning.Outline.{Edge, spans, height, width, passes_below, passes_through, change_order}
use Rattle.defs.specs.Meaning.Outline.{count_to, count_below, edge_at, sides, Inside, Ordered}
use Rattle.defs.specs.Meaning.Cell.{Covered}
use Rattle.geom.proofs.Scale.{height_scale}
use Rattle.geom.proofs.Line.{on_line}
use Rattle.geom.proofs.Parity.{count_same, spanning_even}
use Rattle.geom.proofs.Column.{clash, Met, Point, met_of, point_of}

module _ (o : List ℕ) (k : ℕ) where
  abbrev pub S : ℕ → Bool
  S i = ltb i (sides o) && spans (edge_at o i) k

  abbrev pub H0 : ℕ → ℕ
  H0 i = height (edge_at o i) k 1

  abbrev pub H1 : ℕ → ℕ
  H1 i = height (edge_at o i) (k + 1) 1

  abbrev pub W : ℕ → ℕ
  W i = width (edge_at o i)

  pub S_spans : (i : ℕ) → S i ≡ true → spans (edge_at o i) k ≡ true
  S_spans i h = and_right (ltb i (sides o)) _ h

  pub S_below : (i : ℕ) → S i ≡ true → i < sides o
  S_below i h = ltb-true _ _ (and_left (ltb i (sides o)) _ h)

  pub positive : (i : ℕ) → S i ≡ true → 0 < W i
  positive i h =
      omega (
        arith,
        leb-true (edge_at o i).xl k (and_left _ _ (S_spans i h)),
        ltb-true k (edge_at o i).xr (and_right (leb (edge_at o i).xl k) _ (S_spans i h)),
      )

  pub in_order : Ordered o k → (i j : ℕ) → S i ≡ true → S j ≡ true → H0 i * W j < H0 j * W i → H1 j * W i < H1 i * W j → ⊥
  unfolding Ordered change_order
  in_order r i j si sj h l = clash yes_change (r i j (S_below i si) (S_below j sj))
    where
      yes_change : change_order k (edge_at o i) (edge_at o j) ≡ true
      yes_change = rw (S_spans i si, S_spans j sj, lt-ltb _ _ h, lt-ltb _ _ l)

  S_count : (f : ℕ → Bool) → count_to (λ i. S i && f i) (sides o) ≡ count_to (λ i. spans (edge_at o i) k && f i) (sides o)
  S_count f = count_same _ _ (sides o) (λ i l. rw (lt-ltb i (sides o) l))

  pub even : 0 < sides o → count_to S (sides o) % 2 ≡ 0
  even h = ap (λ (c : ℕ). c % 2) (count_same _ _ (sides o) (λ i l. rw (lt-ltb i (sides o) l))) ∙ spanning_even o k h

  -- the height at a point of the column, scaled by m
  module _ (u v m : ℕ) (up : 0 < u) (vp : 0 < v) (mp : 0 < m) where
    abbrev at : ℕ
    at = (k * (u + v) + v) * m

    abbrev by : ℕ
    by = (u + v) * m

    inner : v * m < by
    inner = omega (arith, mul-pos up mp)

    split : at ≡ k * by + v * m
    split = omega arith

    column : at / by ≡ k
    column = ap (λ (n : ℕ). n / by) split ∙ digits_div k inner

    off : 0 < at % by
    off = omega (arith, ap (λ (n : ℕ). n % by) split ∙ digits_mod k inner, mul-pos vp mp)

    height_at : (e : Edge) → spans e k ≡ true → height e at by ≡ (u * height e k 1 + v * height e (k + 1) 1) * m
    height_at e s =
        height_scale e (k * (u + v) + v) (u + v) m
        ∙ ap (λ (h : ℕ). h * m) (on_line e k (k * (u + v) + v) u v (leb-true _ _ (and_left _ _ s)) (ltb-true _ _ (and_right (leb e.xl k) _ s)) refl)

    below_at : (q i : ℕ) → passes_below at q by (edge_at o i) ≡ spans (edge_at o i) k && ltb ((u * H0 i + v * H1 i) * m) (q * W i)
    unfolding passes_below
    below_at q i = rw column (go (spans (edge_at o i) k) refl)
      where
        go : (b : Bool) → spans (edge_at o i) k ≡ b → b && ltb (height (edge_at o i) at by) (q * W i) ≡ b && ltb ((u * H0 i + v * H1 i) * m) (q * W i)
        go false e = refl
        go true e = rw (height_at (edge_at o i) e)

    through_at : (q i : ℕ) → passes_through at q by (edge_at o i) ≡ spans (edge_at o i) k && eqb ((u * H0 i + v * H1 i) * m) (q * W i)
    unfolding passes_through
    through_at q i = rw column (go (spans (edge_at o i) k) refl)
      where
        go : (b : Bool) → spans (edge_at o i) k ≡ b → b && eqb (height (edge_at o i) at by) (q * W i) ≡ b && eqb ((u * H0 i + v * H1 i) * m) (q * W i)
        go false e = refl
        go true e = rw (height_at (edge_at o i) e)

    counts : (q : ℕ) → count_to (λ i. S i && ltb ((u * H0 i + v * H1 i) * m) (q * W i)) (sides o) ≡ count_below o at q by (sides o)
    unfolding count_below
    counts q = S_count (λ i. ltb ((u * H0 i + v * H1 i) * m) (q * W i)) ∙ count_same _ _ (sides o) (λ i l. sym (below_at q i))

    not_through : (q i : ℕ) → S i ≡ true → passes_through at q by (edge_at o i) ≡ false → (u * H0 i + v * H1 i) * m ≡ q * W i → ⊥
    not_through q i s h e = clash (eq-eqb _ _ e) (rw (through_at q i, S_spans i s) at h)

    inside_at :
        (q : ℕ) → ((i : ℕ) → i < sides o → S i ≡ true → (u * H0 i + v * H1 i) * m ≡ q * W i → ⊥) → count_to (λ i. S i && ltb ((u * H0 i + v * H1 i) * m) (q * W i)) (sides o) % 2 ≡ 1 → Inside o at q by
    inside_at q clear odd =
        record {
          point = omega (arith, mul-pos up mp);
          between = off;
          odd = ap (λ (n : ℕ). n % 2) (sym (counts q)) ∙ odd;
          clear = λ i l. through_at q i ∙ go i l (spans (edge_at o i) k) refl;
        }
      where
        go : (i : ℕ) → i < sides o → (b : Bool) → spans (edge_at o i) k ≡ b → b && eqb ((u * H0 i + v * H1 i) * m) (q * W i) ≡ false
        go i l false e = refl
        go i l true e = ne_eqb _ _ (clear i l (ap₂ ◌&&◌ (lt-ltb i (sides o) l) e))

  module _ (r : Ordered o k) where
    -- A row that is met in the column has a point inside.
    pub cover : (j : ℕ) → Met (sides o) S H0 H1 W positive (in_order r) j → Covered o 1 k j
    cover j t = from (point_of (sides o) S H0 H1 W positive (in_order r) j t)
      where
        from : Point (sides o) S H0 H1 W positive (in_order r) j → Covered o 1 k j
        from p =
            record {
              p = at p.u p.v p.m p.u_pos p.v_pos p.m_pos;
              q = p.q;
              d = by p.u p.v p.m p.u_pos p.v_pos p.m_pos;
              left = omega (arith, mul-pos p.v_pos p.m_pos);
              right = omega (arith, mul-pos p.u_pos p.m_pos);
              low = p.low;
              high = p.high;
              inside = inside_at p.u p.v p.m p.u_pos p.v_pos p.m_pos p.q p.clear p.odd;
            }

    -- A point inside, in the column, meets its row.
    pub meet : 0 < sides o → (j : ℕ) → Covered o 1 k j → Met (sides o) S H0 H1 W positive (in_order r) j
    meet some j c =
        met_of (sides o) S H0 H1 W positive (in_order r) (even some) j
        (go ((k + 1) * c.d - c.p) (c.p - k * c.d) (omega (arith, c.left, c.right)) (omega (arith, c.left, c.right)) (omega (arith, c.left, c.right)) (omega (arith, c.left, c.right)))
      where
        go : (u v : ℕ) → 0 < u → 0 < v → c.p + u ≡ (k + 1) * c.d → k * c.d + v ≡ c.p → Point (sides o) S H0 H1 W positive (in_order r) j
        go u v up vp eu ev =
            let ed : c.d ≡ (u + v) * 1 = omega arith in
            let ep : c.p ≡ (k * (u + v) + v) * 1 = omega (arith, ap (λ (n : ℕ). k * n) ed) in
            let i : Inside o ((k * (u + v) + v) * 1) c.q ((u + v) * 1) = subst₂ (λ (p d : ℕ). Inside o p c.q d) ep ed c.inside in
            record {
              u = u;
              v = v;
              q = c.q;
              m = 1;
              u_pos = up;
              v_pos = vp;
              m_pos = omega arith;
              low = omega (arith, c.low, ap (λ (n : ℕ). j * n) ed);
              high = omega (arith, c.high, ap (λ (n : ℕ). j * n) ed);
              clear = λ n l s. not_through u v 1 up vp (omega arith) c.q n s (i.clear n l);
              odd = ap (λ (n : ℕ). n % 2) (counts u v 1 up vp (omega arith) c.q) ∙ i.odd;
            }
