-- Where nothing is drawn twice, each edge bounds the inside along its whole length: next to each of its points is one that no other edge
-- passes through. Assumes nothing.
use mathlib.Core.Path.{◌≡◌, refl, ap, sym, subst, ◌∙◌}
use mathlib.Core.Logic.{inr, ⊎_elim, ◌≢◌}
use mathlib.Core.Bool.{Bool, true, false, false≢true, xor, ◌&&◌}
use mathlib.Core.List.{List}
use Prim.Native.Nat.{ℕ, zero, suc, ◌+◌, ◌*◌, ◌-◌, ◌%◌, ◌≤◌, ◌<◌, max, min}
use native.Mathlib.Omega.{arith}
use native.Mathlib.Decide.{dec_lt}
use native.Mathlib.Nat.{mul-le-mul_right, lt_of_mul-lt-mul_right, mul-pos, min-eq_left, min-eq_right, max-eq_left, max-eq_right}
use lib.Dec.{leb, eqb}
use borrow.Author.Tests.{le-leb, lt-leb, eq-eqb, leb-true, leb-false, eqb-true}
use Rattle.laws.proofs.Tests.{and_left, and_right}
use Rattle.defs.specs.Meaning.Outline.{Edge, edge_at, sides, height, width, passes_through, one, count_to}
use Rattle.defs.specs.Meaning.Turn.{greatest}
use Rattle.geom.proofs.Strip.{le_or_lt}
use Rattle.geom.proofs.Extent.{at_most}
use Rattle.geom.proofs.Line.{height_is}
use Rattle.geom.proofs.Scale.{height_scale}
use Rattle.turns.proofs.Chain.{count_none}
use Rattle.strokes.specs.Stroke.{OnEdge, Shared, DrawnOnce}
use Rattle.strokes.proofs.Points.{upright_on}
use Rattle.knife.specs.Knife.{Touches, passes_up}
use Rattle.knife.specs.Safe.{HasEnds}
use Rattle.knife.proofs.Border.{edge_touches, near_below}
use Rattle.knife.proofs.Rise.{rise_touches}
use Rattle.knife.proofs.Limit.{TouchesNear, touches_limit}
use Rattle.knife.proofs.Step.{Step, step_x, step_y, step_d, step_point, step_rest, step_own, step_nearby, step_shares, back_near}

-- one of 0 .. n - 1 passes, and no other
one_counted : (f : ℕ → Bool) (n i : ℕ) → i < n → f i ≡ true → ((j : ℕ) → j < n → j ≢ i → f j ≡ false) → count_to f n ≡ 1
unfolding count_to
one_counted f zero i l t h = absurd (omega arith)
one_counted f (suc n) i l t h = go (dec_lt i n) (λ k. one_counted f n i k t (λ j m. h j (omega arith)))
  where
    go : Dec (i < n) → (i < n → count_to f n ≡ 1) → count_to f n + one (f n) ≡ 1
    go (yes k) r = rw (r k, h n (omega arith) (λ e. omega arith)) refl
    go (no k) r =
        let e : i ≡ n = omega arith in
        rw (count_none f n (λ j m. h j (omega arith) (λ e. omega arith)), subst (λ (a : ℕ). f a ≡ true) e t) refl

-- A vertical edge at x = k goes up past q/d where one end is not above q/d and the other is.
record Upright (e : Edge) (k q d : ℕ) : Type 0 where
  left : e.xl ≡ k
  right : e.xr ≡ k
  low : min e.yl e.yr * d ≤ q
  high : q < max e.yl e.yr * d

upright : (e : Edge) (k q d : ℕ) → passes_up k q d e ≡ true → Upright e k q d
unfolding passes_up xor
upright e k q d t =
    record {
      left = eqb-true _ _ (and_left _ _ (and_left _ _ t));
      right = eqb-true _ _ (and_right (eqb e.xl k) _ (and_left _ _ t));
      low = ends.0;
      high = ends.1;
    }
  where
    ends : (min e.yl e.yr * d ≤ q) × (q < max e.yl e.yr * d)
    ends = go (leb (e.yl * d) q) (leb (e.yr * d) q) refl refl (and_right (eqb e.xl k && eqb e.xr k) _ t)
      where
        order : (x y : ℕ) → x * d ≤ q → q < y * d → x ≤ y
        order x y l h = let less : x < y = lt_of_mul-lt-mul_right d (omega arith) in omega arith

        go : (a b : Bool) → leb (e.yl * d) q ≡ a → leb (e.yr * d) q ≡ b → xor a b ≡ true →
            (min e.yl e.yr * d ≤ q) × (q < max e.yl e.yr * d)
        go true false ea eb t =
            let l = leb-true _ q ea in
            let h = leb-false _ q eb in
            let o = order e.yl e.yr l h in
            rw (min-eq_left o, max-eq_right o) (l, h)
        go false true ea eb t =
            let l = leb-true _ q eb in
            let h = leb-false _ q ea in
            let o = order e.yr e.yl l h in
            rw (min-eq_right o, max-eq_left o) (l, h)
        go true true ea eb t = absurd (false≢true t)
        go false false ea eb t = absurd (false≢true t)

goes_up : (e : Edge) (k q d : ℕ) → Upright e k q d → passes_up k q d e ≡ true
unfolding passes_up xor
goes_up e k q d u =
    rw (eq-eqb e.xl k u.left, eq-eqb e.xr k u.right)
    (⊎_elim
    (λ (o : e.yl ≤ e.yr).
    rw (le-leb (e.yl * d) q (rw (min-eq_left o) at u.low), lt-leb (e.yr * d) q (rw (max-eq_right o) at u.high)) refl)
    (λ h.
    let o : e.yr ≤ e.yl = omega arith in
    rw (le-leb (e.yr * d) q (rw (min-eq_right o) at u.low), lt-leb (e.yl * d) q (rw (max-eq_left o) at u.high)) refl)
    (le_or_lt e.yl e.yr))

-- two that go up past one height have the stretch from there up to the next multiple of 1/d in common
ups_share : (e f : Edge) (k q d : ℕ) → 1 ≤ d → Upright e k q d → Upright f k q d → Shared e f
ups_share e f k q d dpos u v =
    record {
      p = k * d;
      q = q;
      d = d;
      p' = k * d;
      q' = q + 1;
      d' = d;
      on_e = at e u;
      on_f = at f v;
      on_e' = over e u;
      on_f' = over f v;
      differ = inr (λ s. omega arith);
    }
  where
    at : (g : Edge) → Upright g k q d → OnEdge g (k * d) q d
    at g w = upright_on g k q d w.left w.right dpos w.low (omega (arith, w.high))

    over : (g : Edge) → Upright g k q d → OnEdge g (k * d) (q + 1) d
    over g w = upright_on g k (q + 1) d w.left w.right dpos (omega (arith, w.low)) (omega (arith, w.high))

-- the height of an edge at its right end, and one step left of it
end_height : (e : Edge) (d : ℕ) → e.xl ≤ e.xr → height e (e.xr * d) d ≡ e.yr * (width e * d)
end_height e d order = go (width e) (omega arith)
  where
    go : (w : ℕ) → e.xr ≡ e.xl + w → height e (e.xr * d) d ≡ e.yr * (w * d)
    go w ew = height_is e (e.xr * d) d 0 (w * d) (omega arith) (omega (arith, ap (λ (x : ℕ). x * d) ew)) ∙ omega arith

end_back : (e : Edge) (d m x w : ℕ) → x + 1 ≡ e.xr * d * m → e.xl * (d * m) ≤ x → e.xr ≡ e.xl + w →
    height e x (d * m) + e.yr ≡ e.yr * (w * d) * m + e.yl
end_back e d m x w is l ew = go (x - e.xl * (d * m)) (omega arith)
  where
    go : (B : ℕ) → x ≡ e.xl * (d * m) + B → height e x (d * m) + e.yr ≡ e.yr * (w * d) * m + e.yl
    go B eb =
        rw (height_is e x (d * m) 1 B (omega (arith, is)) eb)
        (sum e.yl e.yr (omega (arith, is, eb, ap (λ (y : ℕ). y * (d * m)) ew)))
      where
        sum : (yl yr : ℕ) → B + 1 ≡ w * (d * m) → yl * 1 + yr * B + yr ≡ yr * (w * d) * m + yl
        sum yl yr s = omega (arith, ap (λ (y : ℕ). yr * y) s)

-- one less than a product
less_one : (a m : ℕ) → 0 < a → 0 < m → a * m - 1 + 1 ≡ a * m
less_one a m apos mpos = omega (arith, mul-pos apos mpos)

-- Edge i of an outline that draws nothing twice.
module _ (o : List ℕ) (once : DrawnOnce o) (i : ℕ) (is-edge : i < sides o) where
  abbrev e : Edge
  e = edge_at o i

  -- a test that it passes, and that no other edge passes unless it shares a stretch with it
  alone : (f : Edge → Bool) → f e ≡ true → ((j : ℕ) → j < sides o → f (edge_at o j) ≡ true → Shared e (edge_at o j)) →
      count_to (λ j. f (edge_at o j)) (sides o) % 2 ≡ 1
  unfolding DrawnOnce
  alone f own shares = ap (λ (c : ℕ). c % 2) (one_counted _ (sides o) i is-edge own (λ j l ne. go j l ne _ refl))
    where
      go : (j : ℕ) → j < sides o → j ≢ i → (b : Bool) → f (edge_at o j) ≡ b → b ≡ false
      go j l ne false t = refl
      go j l ne true t = absurd (once i j is-edge l (λ s. ne (sym s)) (shares j l t))

  abbrev slack : ℕ → ℕ
  slack j = (e.yl + e.yr) * width (edge_at o j) + ((edge_at o j).yl + (edge_at o j).yr) * width e

  -- each point but the right end
  before_end : (p q d : ℕ) → 1 ≤ d → e.xl * d ≤ p → p < e.xr * d → height e p d ≡ q * width e → Touches o p q d
  before_end p q d dpos left right on =
      touches_limit o p q d
      (λ n some. go n (n * (e.yl + e.yr + 1) + 2 + greatest slack (sides o)) (omega arith) (omega arith)
      (λ j l. omega (arith, at_most slack (sides o) j l)))
    where
      go : (n m : ℕ) → 1 < m → n * (e.yl + e.yr + 1) < m → ((j : ℕ) → j < sides o → slack j < m) → TouchesNear o p q d n
      go n m fine thin small =
          record {
            p' = step_x e p m;
            q' = step_y e p d m;
            d' = step_d e d m;
            point = step_point s;
            near = step_nearby s n q thin on;
            touches =
                edge_touches o _ _ _
                (record {
                  point = step_point s;
                  between = step_rest s;
                  odd = alone (passes_through _ _ _) (step_own s) (λ j l t. step_shares s q on (edge_at o j) (small j l) t);
                });
          }
        where
          s : Step e p d m
          s = record { point = dpos; fine = fine; left = left; right = right }

  right_end : (q d : ℕ) → 1 ≤ d → e.xl < e.xr → height e (e.xr * d) d ≡ q * width e → Touches o (e.xr * d) q d
  right_end q d dpos long on =
      touches_limit o (e.xr * d) q d
      (λ n some. go n (n * (e.yl + e.yr + 1) + 2) (e.xr * d * (n * (e.yl + e.yr + 1) + 2) - 1) (omega arith) (omega arith)
      (less_one (e.xr * d) _ (mul-pos (let r : 0 < e.xr = omega arith in r) dpos) (omega arith)))
    where
      go : (n m x : ℕ) → 0 < m → n * (e.yl + e.yr + 1) < m → x + 1 ≡ e.xr * d * m → TouchesNear o (e.xr * d) q d n
      go n m x mpos thin is =
          record {
            p' = x * width e;
            q' = height e x (d * m);
            d' = d * m * width e;
            point = point;
            near =
                back_near (width e) e.yl e.yr d m n dpos wide thin (height e (e.xr * d) d) (height e x (d * m)) q (e.xr * d) x is on
                (end_back e d m x (width e) is from_left (omega arith) ∙
                ap (λ (h : ℕ). h * m + e.yl) (sym (end_height e d (omega arith))));
            touches =
                before_end (x * width e) (height e x (d * m)) (d * m * width e) point
                (omega (arith, mul-le-mul_right (width e) from_left)) (omega (arith, ap (λ (y : ℕ). y * width e) is, wide))
                (height_scale e x (d * m) (width e));
          }
        where
          wide : 0 < width e
          wide = omega arith

          point : 1 ≤ d * m * width e
          point = mul-pos (mul-pos dpos mpos) wide

          from_left : e.xl * (d * m) ≤ x
          from_left = omega (arith, is, mul-pos dpos mpos, mul-le-mul_right (d * m) long)

  rise : (k q d : ℕ) → 1 ≤ d → Upright e k q d → Touches o (k * d) q d
  rise k q d dpos u =
      rise_touches o k q d
      (record {
        point = dpos;
        odd = alone (passes_up k q d) (goes_up e k q d u) (λ j l t. ups_share e (edge_at o j) k q d dpos u (upright (edge_at o j) k q d t));
      })

  upper_end : (k q d : ℕ) → 1 ≤ d → e.xl ≡ k → e.xr ≡ k → min e.yl e.yr < max e.yl e.yr → q ≡ max e.yl e.yr * d →
      Touches o (k * d) q d
  upper_end k q d dpos left right tall at =
      touches_limit o (k * d) q d
      (λ n some. go n (n + 1) (q * (n + 1) - 1) (omega arith)
      (less_one q (n + 1) (rw at (mul-pos (let r : 0 < max e.yl e.yr = omega arith in r) dpos)) (omega arith)))
    where
      go : (n m x : ℕ) → n < m → x + 1 ≡ q * m → TouchesNear o (k * d) q d n
      go n m x thin is =
          record {
            p' = k * d * m;
            q' = x;
            d' = d * m;
            point = point;
            near = near_below (k * d) q d m n dpos thin x is;
            touches =
                subst (λ (y : ℕ). Touches o y x (d * m)) (omega arith)
                (rise k x (d * m) point (record { left = left; right = right; low = within.0; high = within.1 }));
          }
        where
          point : 1 ≤ d * m
          point = mul-pos dpos (let r : 0 < m = omega arith in r)

          within : (min e.yl e.yr * (d * m) ≤ x) × (x < max e.yl e.yr * (d * m))
          within =
              let top = ap (λ (y : ℕ). y * m) at in
              (omega (arith, is, top, point, mul-le-mul_right (d * m) tall), omega (arith, is, top))

  pub once_touches : HasEnds e → (p q d : ℕ) → OnEdge e p q d → Touches o p q d
  once_touches ends p q d on = ⊎_elim vertical slanted (le_or_lt e.xr e.xl)
    where
      slanted : e.xl < e.xr → Touches o p q d
      slanted long = ⊎_elim last (λ l. before_end p q d on.point on.left l on.on_line) (le_or_lt (e.xr * d) p)
        where
          last : e.xr * d ≤ p → Touches o p q d
          last l =
              let s : e.xr * d ≡ p = omega (arith, on.right) in
              subst (λ (x : ℕ). Touches o x q d) s
              (right_end q d on.point long (ap (λ (x : ℕ). height e x d) s ∙ on.on_line))

      vertical : e.xr ≤ e.xl → Touches o p q d
      vertical h = subst (λ (x : ℕ). Touches o x q d) (sym at) (⊎_elim top inner (le_or_lt (max e.yl e.yr * d) q))
        where
          same : e.xr ≡ e.xl
          same =
              let less : e.xl < e.xr + 1 = lt_of_mul-lt-mul_right d (omega (arith, on.left, on.right, on.point)) in
              omega arith

          at : p ≡ e.xl * d
          at = omega (arith, on.left, on.right, ap (λ (x : ℕ). x * d) same)

          tall : min e.yl e.yr < max e.yl e.yr
          tall = ⊎_elim (λ ne. absurd (ne (sym same))) (λ ne. omega arith) ends

          inner : q < max e.yl e.yr * d → Touches o (e.xl * d) q d
          inner l = rise e.xl q d on.point (record { left = refl; right = same; low = on.low; high = l })

          top : max e.yl e.yr * d ≤ q → Touches o (e.xl * d) q d
          top l = upper_end e.xl q d on.point refl same tall (omega (arith, on.high))
