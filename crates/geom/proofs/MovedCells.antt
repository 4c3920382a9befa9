-- The cells of the moved piece are the cells of the turned outline, c columns to the right and y rows up.
-- Assumes nothing.
use mathlib.Core.Path.{◌≡◌, refl, ap, sym, subst, ◌∙◌}
use mathlib.Core.Bool.{Bool, true, false}
use mathlib.Core.List.{List}
use Prim.Native.Nat.{ℕ, zero, suc, ◌+◌, ◌*◌, ◌-◌, ◌/◌, ◌%◌, ◌≤◌, ◌<◌}
use native.Mathlib.Omega.{arith}
use native.Mathlib.Nat.{mul-le-mul_right, add-mul-mod_self_right, div-add-mod, mod-lt, lt_of_mul-lt-mul_right}
use lib.Dec.{leb}
use borrow.Author.Tests.{ltb-true, leb-true}
use Rattle.laws.proofs.Tests.{and_left, and_right, Some}
use Rattle.defs.specs.Meaning.Outline.{Edge, edge_at, sides, spans, width, height, passes_below, passes_through, one, count_to, count_below, Inside}
use Rattle.defs.specs.Meaning.Cell.{Covered}
use Rattle.geom.proofs.Parity.{count_same}
use Rattle.geom.proofs.Shift.{shift_edge, shifted, sides_shifted, edge_shifted, below_shift, through_shift}

some_counted : (f : ℕ → Bool) (n : ℕ) → 0 < count_to f n → Some f n
unfolding count_to
some_counted f zero h = absurd (omega arith)
some_counted f (suc n) h = go (f n) refl (some_counted f n)
  where
    go : (b : Bool) → f n ≡ b → (0 < count_to f n → Some f n) → Some f (suc n)
    go true e k = record { i = n; below = omega arith; holds = e }
    go false e k =
        let t = k (let z : 0 < count_to f n + 0 = subst (λ (b : Bool). 0 < count_to f n + one b) e h in omega arith) in
        record { i = t.i; below = omega (arith, t.below); holds = t.holds }

module _ (X Y : ℕ) (v : List ℕ) where
  counts_shift : (p q d : ℕ) → 1 ≤ d →
      count_below (shifted X Y v) (p + X * d) (q + Y * d) d (sides (shifted X Y v)) ≡ count_below v p q d (sides v)
  unfolding count_below
  counts_shift p q d dpos =
      ap (λ (n : ℕ). count_to (λ i. passes_below (p + X * d) (q + Y * d) d (edge_at (shifted X Y v) i)) n) (sides_shifted X Y v) ∙
      count_same _ _ (sides v)
      (λ i l. ap (λ (e : Edge). passes_below (p + X * d) (q + Y * d) d e) (edge_shifted X Y v i l) ∙ below_shift X Y p q d dpos (edge_at v i))

  through_same : (p q d : ℕ) → 1 ≤ d → (i : ℕ) → i < sides v →
      passes_through (p + X * d) (q + Y * d) d (edge_at (shifted X Y v) i) ≡ passes_through p q d (edge_at v i)
  through_same p q d dpos i l =
      ap (λ (e : Edge). passes_through (p + X * d) (q + Y * d) d e) (edge_shifted X Y v i l) ∙ through_shift X Y p q d dpos (edge_at v i)

  pub inside_shift : (p q d : ℕ) → Inside v p q d → Inside (shifted X Y v) (p + X * d) (q + Y * d) d
  inside_shift p q d a =
      record {
        point = a.point;
        between = subst (λ (n : ℕ). 0 < n) (sym (add-mul-mod_self_right p X d)) a.between;
        odd = ap (λ (c : ℕ). c % 2) (counts_shift p q d a.point) ∙ a.odd;
        clear =
            λ i l.
            let l' = subst (λ (n : ℕ). i < n) (sides_shifted X Y v) l in
            through_same p q d a.point i l' ∙ a.clear i l';
      }

  pub inside_back : (p q d : ℕ) → Inside (shifted X Y v) (p + X * d) (q + Y * d) d → Inside v p q d
  inside_back p q d a =
      record {
        point = a.point;
        between = subst (λ (n : ℕ). 0 < n) (add-mul-mod_self_right p X d) a.between;
        odd = ap (λ (c : ℕ). c % 2) (sym (counts_shift p q d a.point)) ∙ a.odd;
        clear =
            λ i l.
            sym (through_same p q d a.point i l) ∙ a.clear i (subst (λ (n : ℕ). i < n) (sym (sides_shifted X Y v)) l);
      }

  -- an inside point of the shifted outline lies right of X and above Y
  pub record Beyond (p q d : ℕ) : Type 0 where
    pub right : X * d ≤ p
    pub up : Y * d ≤ q

  beyond_edge : (p q d : ℕ) → 1 ≤ d → (e : Edge) → passes_below p q d (shift_edge X Y e) ≡ true → Beyond p q d
  unfolding passes_below height
  beyond_edge p q d dpos e h =
      let s = and_left (spans (shift_edge X Y e) (p / d)) _ h in
      let l = leb-true (e.xl + X) (p / d) (and_left _ _ s) in
      let r = ltb-true (p / d) (e.xr + X) (and_right (leb (e.xl + X) (p / d)) _ s) in
      let b = ltb-true (height (shift_edge X Y e) p d) (q * width (shift_edge X Y e)) (and_right (spans (shift_edge X Y e) (p / d)) _ h) in
      record {
        right = omega (arith, div-add-mod p d, mul-le-mul_right d l);
        up =
            go ((e.xr + X) * d - p) (p - (e.xl + X) * d) (e.xr + X - (e.xl + X)) e.yl e.yr
            (sum (e.xl + X) (e.xr + X)
            (omega (arith, div-add-mod p d, mul-le-mul_right d l))
            (omega (arith, div-add-mod p d, mod-lt p dpos, mul-le-mul_right d r)) (omega (arith, l, r)))
            b;
      }
    where
      sum : (a b : ℕ) → a * d ≤ p → p ≤ b * d → a ≤ b → (b * d - p) + (p - a * d) ≡ (b - a) * d
      sum a b h k ab = inner (b - a) (omega arith)
        where
          inner : (w : ℕ) → a + w ≡ b → (b * d - p) + (p - a * d) ≡ w * d
          inner w e = omega (arith, ap (λ (n : ℕ). n * d) e)

      go : (A B w yl yr : ℕ) → A + B ≡ w * d → (yl + Y) * A + (yr + Y) * B < q * w → Y * d ≤ q
      go A B w yl yr e k =
          let z : Y * d < q = lt_of_mul-lt-mul_right w (omega (arith, ap (λ (n : ℕ). Y * n) e)) in
          omega arith

  beyond : (p q d : ℕ) → Inside (shifted X Y v) p q d → Beyond p q d
  unfolding count_below
  beyond p q d a =
      let t = some_counted (λ i. passes_below p q d (edge_at (shifted X Y v) i)) (sides (shifted X Y v)) (omega (arith, a.odd)) in
      beyond_edge p q d a.point (edge_at v t.i)
      (subst (λ (e : Edge). passes_below p q d e ≡ true) (edge_shifted X Y v t.i (subst (λ (n : ℕ). t.i < n) (sides_shifted X Y v) t.below)) t.holds)

-- a shift by whole columns and rows
module _ (R c y : ℕ) (v : List ℕ) where
  pub cells_shift : (i j : ℕ) → Covered v R i j → Covered (shifted (c * R) y v) R (c + i) (y + j)
  cells_shift i j a =
      record {
        p = a.p + c * R * a.d;
        q = a.q + y * a.d;
        d = a.d;
        inside = inside_shift (c * R) y v a.p a.q a.d a.inside;
        left = omega (arith, a.left);
        right = omega (arith, a.right);
        low = omega (arith, a.low);
        high = omega (arith, a.high);
      }

  pub record Came (i j : ℕ) : Type 0 where
    pub column : c ≤ i
    pub row : y ≤ j
    pub covered : Covered v R (i - c) (j - y)

  pub cells_back : (i j : ℕ) → Covered (shifted (c * R) y v) R i j → Came i j
  cells_back i j a = go (a.p - c * R * a.d) (a.q - y * a.d) (omega (arith, b.right)) (omega (arith, b.up))
    where
      b : Beyond (c * R) y v a.p a.q a.d
      b = beyond (c * R) y v a.p a.q a.d a.inside

      cl : c ≤ i
      cl =
          let z : c < i + 1 = lt_of_mul-lt-mul_right (R * a.d) (omega (arith, a.right, b.right)) in
          omega arith

      rl : y ≤ j
      rl =
          let z : y < j + 1 = lt_of_mul-lt-mul_right a.d (omega (arith, a.high, b.up)) in
          omega arith

      go : (p q : ℕ) → p + c * R * a.d ≡ a.p → q + y * a.d ≡ a.q → Came i j
      go p q ep eq = more (i - c) (j - y) (omega (arith, cl)) (omega (arith, rl))
        where
          more : (i' j' : ℕ) → c + i' ≡ i → y + j' ≡ j → Came i j
          more i' j' ei ej =
              let di : i - c ≡ i' = omega arith in
              let dj : j - y ≡ j' = omega arith in
              record {
                column = cl;
                row = rl;
                covered =
                    subst (λ (n : ℕ). Covered v R n (j - y)) (sym di)
                    (subst (λ (n : ℕ). Covered v R i' n) (sym dj)
                    (record {
                      p = p;
                      q = q;
                      d = a.d;
                      inside =
                          inside_back (c * R) y v p q a.d
                          (subst (λ (n : ℕ). Inside (shifted (c * R) y v) n (q + y * a.d) a.d) (sym ep)
                          (subst (λ (n : ℕ). Inside (shifted (c * R) y v) a.p n a.d) (sym eq) a.inside));
                      left = omega (arith, a.left, ap (λ (n : ℕ). n * R * a.d) ei);
                      right = omega (arith, a.right, ap (λ (n : ℕ). n * R * a.d) ei);
                      low = omega (arith, a.low, ap (λ (n : ℕ). n * a.d) ej);
                      high = omega (arith, a.high, ap (λ (n : ℕ). n * a.d) ej);
                    }));
              }
