-- Where a slab may end: no vertex inside it, and its entries in order.
-- Assumes nothing.
use mathlib.Core.Path.{◌≡◌, ap, ap₂, sym, subst, ◌∙◌}
use mathlib.Core.Bool.{Bool, true, false, cond, ◌&&◌}
use mathlib.Core.Logic.{⊎_elim}
use mathlib.Core.List.{List}
use Prim.Native.Nat.{ℕ, ◌+◌, ◌*◌, ◌-◌, ◌≤◌, ◌<◌}
use native.Mathlib.Omega.{arith}
use lib.Dec.{ltb, leb}
use lib.ListN.{length, get_or}
use borrow.Author.Tests.{lt-ltb, le-ltb, le-leb, lt-leb, ltb-true, leb-true}
use Rattle.laws.proofs.Tests.{and_left, and_right}
use Rattle.defs.specs.Meaning.Outline.{Edge, vx, vy, sides, after, edge_at, edge_between, spans, width, height, KeepsOrder}
use Rattle.defs.specs.Meaning.Turn.{turned}
use Rattle.geom.proofs.Strip.{lt_or_le}
use Rattle.geom.proofs.Cover.{in_order}
use Rattle.geom.proofs.Extent.{after_below, sides_turned}
use Rattle.slabs.specs.Slab.{Neat}
use Rattle.entries.specs.Edges.{Loaded, Loads, Sorted, Rising, Spanned}
use Rattle.entries.proofs.Entries.{loads_end}
use Rattle.cuts.specs.Cut.{CutAt}
use Rattle.section.specs.Slabs.{HeldAt}
use Rattle.cuts.proofs.Ends.{cut_end}

-- an edge that spans the first and the last unit column of a slab reaches over it
pub reaches_left : (e : Edge) (a : ℕ) → spans e a ≡ true → e.xl ≤ a
reaches_left e a s = leb-true e.xl a (and_left (leb e.xl a) _ s)

pub reaches_right : (e : Edge) (a b : ℕ) → a < b → spans e (b - 1) ≡ spans e a → spans e a ≡ true → b ≤ e.xr
reaches_right e a b l h s = omega (arith, ltb-true (b - 1) e.xr (and_right (leb e.xl (b - 1)) _ (h ∙ s)))

-- a unit column is a slab
pub neat_one : (v : List ℕ) (a : ℕ) → KeepsOrder v → Neat v a (a + 1)
unfolding KeepsOrder
neat_one v a keeps =
    record {
      wide = omega arith;
      steady = λ i k l f t. let e : k ≡ a = omega arith in ap (λ (n : ℕ). spans (edge_at v i) n) e;
      order = λ i j li lj si sj. in_order v a (keeps a) i j (ap₂ ◌&&◌ (lt-ltb i (sides v) li) si) (ap₂ ◌&&◌ (lt-ltb j (sides v) lj) sj);
    }

sorted_left : {h0 h1 w : List ℕ} {m : ℕ} → Sorted h0 h1 w m → Rising h0 w m
sorted_left s = record { order = λ x y l h. (s.order x y l h).left }

-- entries that rise at both sides keep their order
rising_tidy : {h0 h1 w : List ℕ} {m : ℕ} → Rising h0 w m → Rising h1 w m → (x y : ℕ) → x < m → y < m →
    get_or h0 x 0 * get_or w y 0 < get_or h0 y 0 * get_or w x 0 → get_or h1 y 0 * get_or w x 0 < get_or h1 x 0 * get_or w y 0 → ⊥
rising_tidy {h0} {h1} {w} r s x y lx ly p q =
    ⊎_elim (λ l. omega (arith, s.order x y l ly))
    (λ l.
    ⊎_elim (λ k. omega (arith, r.order y x k lx))
    (λ k.
    let e : y ≡ x = omega arith in
    let z = subst (λ (n : ℕ). get_or h0 x 0 * get_or w n 0 < get_or h0 n 0 * get_or w x 0) e p in omega arith)
    (lt_or_le y x))
    (lt_or_le x y)

-- the entries of a neat slab that are sorted rise at its right side too
neat_right : {v : List ℕ} {a b : ℕ} {h0 h1 w : List ℕ} {m : ℕ} → Neat v a b → Loaded v a b h0 h1 w (sides v) m → Sorted h0 h1 w m → Rising h1 w m
neat_right {v} {a} {b} {h0} {h1} {w} {m} n l s =
    record { order = λ x y p q. ⊎_elim (λ k. absurd (back x y p q k)) (λ k. k) (lt_or_le (get_or h1 y 0 * get_or w x 0) (get_or h1 x 0 * get_or w y 0)) }
  where
    back : (x y : ℕ) → x < y → y < m → get_or h1 y 0 * get_or w x 0 < get_or h1 x 0 * get_or w y 0 → ⊥
    back x y p q k =
        let e = l.at x (omega arith) in
        let f = l.at y q in
        ⊎_elim
        (λ h. n.order (l.idx x) (l.idx y) e.here f.here e.edge f.edge (rw (e.left, e.wide, f.left, f.wide) at h) (rw (e.right, e.wide, f.right, f.wide) at k))
        (λ h. let z = (s.order x y p q).right h in omega arith) (lt_or_le (get_or h0 x 0 * get_or w y 0) (get_or h0 y 0 * get_or w x 0))

-- a cut leaves every edge across the slab or outside it
module _ {v : List ℕ} {a b : ℕ} (k : CutAt v a (sides v) b) where
  spans_same : (x y x' y' m : ℕ) → a ≤ m → m < b → (a < x → b ≤ x) → (a < x' → b ≤ x') → spans (edge_between x y x' y') m ≡ spans (edge_between x y x' y') a
  spans_same x y x' y' m l r p q = go (leb x x')
    where
      left : (z : ℕ) → (a < z → b ≤ z) → leb z m ≡ leb z a
      left z f =
          ⊎_elim (λ h. let g = f h in lt-leb z m (omega arith) ∙ sym (lt-leb z a h)) (λ h. le-leb z m (omega arith) ∙ sym (le-leb z a h)) (lt_or_le a z)

      right : (z : ℕ) → (a < z → b ≤ z) → ltb m z ≡ ltb a z
      right z f =
          ⊎_elim (λ h. let g = f h in lt-ltb m z (omega arith) ∙ sym (lt-ltb a z h)) (λ h. le-ltb m z (omega arith) ∙ sym (le-ltb a z h)) (lt_or_le a z)

      go : (t : Bool) → spans (cond t (record { xl = x; yl = y; xr = x'; yr = y' }) (record { xl = x'; yl = y'; xr = x; yr = y })) m ≡ spans (cond t (record { xl = x; yl = y; xr = x'; yr = y' }) (record { xl = x'; yl = y'; xr = x; yr = y })) a
      go true = ap₂ ◌&&◌ (left x p) (right x' q)
      go false = ap₂ ◌&&◌ (left x' q) (right x p)

  pub cut_steady : (i m : ℕ) → i < sides v → a ≤ m → m < b → spans (edge_at v i) m ≡ spans (edge_at v i) a
  unfolding edge_at
  cut_steady i m s l r =
      spans_same (vx v i) (vy v i) (vx v (after (sides v) i)) (vy v (after (sides v) i)) m l r (k.next.none i s) (k.next.none (after (sides v) i) (after_below (sides v) i s))

  -- a cut whose entries rise at both sides is a neat slab
  pub cut_neat : {h0 h1 w : List ℕ} {m : ℕ} → Loaded v a b h0 h1 w (sides v) m → Rising h0 w m → Rising h1 w m → Neat v a b
  cut_neat {h0} {h1} {w} {m} l r s =
      record {
        wide = k.more;
        steady = cut_steady;
        order = λ i j li lj si sj p q.
            let x = l.onto i li si in
            let y = l.onto j lj sj in
            at x.x y.x x.below y.below i j x.is y.is p q;
      }
    where
      at : (x y : ℕ) → x < m → y < m → (i j : ℕ) → l.idx x ≡ i → l.idx y ≡ j →
          height (edge_at v i) a 1 * width (edge_at v j) < height (edge_at v j) a 1 * width (edge_at v i) →
          height (edge_at v j) b 1 * width (edge_at v i) < height (edge_at v i) b 1 * width (edge_at v j) → ⊥
      at x y lx ly i j ei ej p q =
          let e = l.at x lx in
          let f = l.at y ly in
          rising_tidy r s x y lx ly (rw (e.left, e.wide, f.left, f.wide, ei, ej) p) (rw (e.right, e.wide, f.right, f.wide, ei, ej) q)

  pub cut_spanned : {h0 h1 w : List ℕ} → length h0 ≡ 64 → length h1 ≡ 64 → length w ≡ 64 → Spanned v a b h0 h1 w
  cut_spanned e f g =
      record {
        wide = k.more;
        reaches = λ i l t. let z = k.more in reaches_right (edge_at v i) a b z (cut_steady i (b - 1) l (omega arith) (omega arith)) t;
        long0 = e;
        long1 = f;
        longw = g;
      }

pub cut_turned : (o : List ℕ) (t : ℕ) {a r : ℕ} → CutAt (turned o t) a (sides o) r → CutAt (turned o t) a (sides (turned o t)) r
cut_turned o t k = cut_end k (sym (sides_turned o t))

pub cut_shorter : {v : List ℕ} {a n r s : ℕ} → CutAt v a n r → a < s → s ≤ r → CutAt v a n s
cut_shorter k p q =
    record { more = p; next = record { none = λ i l h. let z = k.next.none i l h in omega arith } }

-- a slab from a that ends at a cut, with its entries: neat if they rise at its right side, and where it is a unit column
module _ (o : List ℕ) (t : ℕ) {a r : ℕ} {h0 h1 w : List ℕ} {m c : ℕ} (k : CutAt (turned o t) a (sides o) r) (l : Loads (turned o t) a r h0 h1 w (sides o) m c) where
  whole : Loads (turned o t) a r h0 h1 w (sides (turned o t)) m c
  whole = loads_end l (sym (sides_turned o t))

  held_neat : Neat (turned o t) a r → Rising h1 w m → HeldAt (turned o t) a a r m c h0 h1 w
  held_neat n s =
      record {
        from = omega arith;
        to = k.more;
        kept = record { neat = n; loaded = whole.loaded; left = sorted_left l.sorted; right = s };
        next = whole.next;
      }

  pub held_tidy : Rising h1 w m → HeldAt (turned o t) a a r m c h0 h1 w
  held_tidy s = held_neat (cut_neat (cut_turned o t k) whole.loaded (sorted_left l.sorted) s) s

  pub held_unit : KeepsOrder (turned o t) → r ≤ a + 1 → HeldAt (turned o t) a a r m c h0 h1 w
  held_unit keeps h =
      let e : a + 1 ≡ r = omega (arith, k.more) in
      let n = subst (λ (n : ℕ). Neat (turned o t) a n) e (neat_one (turned o t) a keeps) in
      held_neat n (neat_right n whole.loaded l.sorted)
