-- Rows of a slab as gaps between pairs of entries; adding them to a column's runs.
-- Assumes nothing.
use mathlib.Core.Path.{◌≡◌, refl, ap, sym, subst, ◌∙◌}
use mathlib.Core.Bool.{Bool, true, false, not, ◌&&◌}
use mathlib.Core.Logic.{◌⊎◌, inl, inr, ⊎_elim}
use mathlib.Core.List.{List}
use Prim.Native.Nat.{ℕ, ◌+◌, ◌*◌, ◌-◌, ◌/◌, ◌%◌, ◌≤◌, ◌<◌, min, max}
use native.Mathlib.Omega.{arith}
use lib.ListN.{length, get_or}
use borrow.Author.Tests.{lt-ltb, le-ltb}
use Rattle.defs.specs.Meaning.Outline.{sides, edge_at, spans, width, height, count_to}
use Rattle.geom.proofs.Strip.{lt_or_le}
use Rattle.geom.proofs.Parity.{count_same, spanning_even}
use Rattle.geom.proofs.Rows.{low_row, row_low, high_row, row_high}
use Rattle.geom.proofs.Column.{clash}
use Rattle.join.specs.Runs.{Apart, Joined}
use Rattle.join.proofs.Bases.{few_runs}
use Rattle.slabs.specs.Slab.{above, Opens}
use Rattle.entries.specs.Edges.{Fit, AllFit, Loaded, upper, Rising}
use Rattle.entries.proofs.Entries.{sum_fits, mid_fits}
use Rattle.gaps.specs.Gaps.{Between, Paired, SlabRow, Adds, Room}
use Rattle.gaps.proofs.Pairing.{not_upper, Gap, count_boundary, pair_gap, gap_pair}

-- room
pub room_more : {l h : List ℕ} {n : ℕ} → Room l h n → n < 8001
room_more r = omega (arith, few_runs r.runs r.rows)

pub room_adds : {P : ℕ → Type 0} {l h l' h' : List ℕ} {n r : ℕ} → Room l h n → Adds P l h l' h' n r → ((y : ℕ) → P y → y < 16000) → length l' ≡ length l → length h' ≡ length h → Room l' h' r
room_adds m a f e g =
    record {
      runs = a.runs;
      rows = λ y z. ⊎_elim (λ k. m.rows y k) (λ k. f y k) (a.only y z);
      long = omega (arith, m.long);
      high_long = omega (arith, m.high_long);
    }

-- nothing added
pub adds_none : {P : ℕ → Type 0} {l h : List ℕ} {n : ℕ} → Apart l h n → ((y : ℕ) → P y → ⊥) → Adds P l h l h n n
adds_none a f = record { runs = a; kept = λ y z. z; added = λ y p. absurd (f y p); only = λ y z. inl z }

-- the same rows
adds_same : {P Q : ℕ → Type 0} {l h l' h' : List ℕ} {n r : ℕ} → ((y : ℕ) → P y → Q y) → ((y : ℕ) → Q y → P y) → Adds P l h l' h' n r → Adds Q l h l' h' n r
adds_same f g a =
    record { runs = a.runs; kept = a.kept; added = λ y q. a.added y (g y q); only = λ y z. ⊎_elim inl (λ p. inr (f y p)) (a.only y z) }

-- the numbers of two neighbours are in their limits
module _ {h0 h1 w : List ℕ} {m : ℕ} (f : AllFit h0 h1 w m) (x : ℕ) (l : x + 1 < m) where
  pub lower_fit : Fit h0 h1 w x
  lower_fit = f.each x (omega arith)

  pub upper_fit : Fit h0 h1 w (x + 1)
  upper_fit = f.each (x + 1) l

  pub lower_sum : get_or h0 x 0 + get_or h1 x 0 ≤ 512000000
  lower_sum = sum_fits f x (omega arith)

  pub upper_sum : get_or h0 (x + 1) 0 + get_or h1 (x + 1) 0 ≤ 512000000
  upper_sum = sum_fits f (x + 1) l

  pub lower_cross : (get_or h0 x 0 + get_or h1 x 0) * get_or w (x + 1) 0 ≤ 8192000000000
  lower_cross = mid_fits f (x + 1) x l (omega arith)

  pub upper_cross : (get_or h0 (x + 1) 0 + get_or h1 (x + 1) 0) * get_or w x 0 ≤ 8192000000000
  upper_cross = mid_fits f x (x + 1) (omega arith) l

-- the rows between entries x and x + 1
module _ (h0 h1 w : List ℕ) (x : ℕ) where
  pub gap_level : {l h : List ℕ} {n : ℕ} → Room l h n → (get_or h0 (x + 1) 0 + get_or h1 (x + 1) 0) * get_or w x 0 ≤ (get_or h0 x 0 + get_or h1 x 0) * get_or w (x + 1) 0 →
      Adds (Between h0 h1 w x) l h l h n n
  gap_level r f =
      adds_none r.runs
      (λ y g. clash g.apart (le-ltb ((get_or h0 x 0 + get_or h1 x 0) * get_or w (x + 1) 0) ((get_or h0 (x + 1) 0 + get_or h1 (x + 1) 0) * get_or w x 0) f))

  module _ {lo hi : ℕ} (fit : Fit h0 h1 w (x + 1)) (el : lo ≡ min (get_or h0 x 0) (get_or h1 x 0) / get_or w x 0)
      (eh : hi ≡ min 16000 ((max (get_or h0 (x + 1) 0) (get_or h1 (x + 1) 0) + (get_or w (x + 1) 0 - 1)) / get_or w (x + 1) 0)) where
    reach : (y : ℕ) → Between h0 h1 w x y → y < hi
    reach y g =
        let z = high_row (get_or h0 (x + 1) 0) (get_or h1 (x + 1) 0) (get_or w (x + 1) 0) y fit.some (split (get_or h0 (x + 1) 0) (get_or h1 (x + 1) 0) (y * get_or w (x + 1) 0) g.high) in
        omega (arith, g.row)
      where
        split : (a b c : ℕ) → c < max a b → (c < a) ⊎ (c < b)
        split a b c h = ⊎_elim inl (λ z. inr (omega arith)) (lt_or_le c a)

    pub gap_flat : {l h : List ℕ} {n : ℕ} → Room l h n → hi ≤ lo → Adds (Between h0 h1 w x) l h l h n n
    gap_flat r f = adds_none r.runs (λ y g. omega (arith, g.low, reach y g))

    pub gap_join : {l h l' h' : List ℕ} {n r u v : ℕ} → (get_or h0 x 0 + get_or h1 x 0) * get_or w (x + 1) 0 < (get_or h0 (x + 1) 0 + get_or h1 (x + 1) 0) * get_or w x 0 →
        u ≡ lo → v ≡ hi → Joined l h l' h' n r u v → Adds (Between h0 h1 w x) l h l' h' n r
    gap_join a eu ev j =
        record {
          runs = j.runs;
          kept = j.kept;
          added = λ y g. j.added y (omega (arith, g.low)) (omega (arith, reach y g));
          only = λ y z.
              ⊎_elim inl
              (λ p.
              inr
              (record {
                apart = lt-ltb ((get_or h0 x 0 + get_or h1 x 0) * get_or w (x + 1) 0) ((get_or h0 (x + 1) 0 + get_or h1 (x + 1) 0) * get_or w x 0) a;
                low = omega (arith, p.0);
                row = omega (arith, p.1);
                high =
                    ⊎_elim (λ k. omega arith) (λ k. omega arith)
                    (row_high (get_or h0 (x + 1) 0) (get_or h1 (x + 1) 0) (get_or w (x + 1) 0) y fit.some (omega (arith, p.1)));
              }))
              (j.only y z);
        }

-- pair by pair
pub paired_none : (h0 h1 w : List ℕ) {l h : List ℕ} {n : ℕ} → Room l h n → Adds (Paired h0 h1 w 0) l h l h n n
paired_none h0 h1 w r = adds_none r.runs (λ y g. omega (arith, g.below))

pub paired_more : {h0 h1 w : List ℕ} (x : ℕ) {l h l' h' l'' h'' : List ℕ} {n k r : ℕ} → x % 2 ≡ 0 → Adds (Paired h0 h1 w x) l h l' h' n k → Adds (Between h0 h1 w x) l' h' l'' h'' k r →
    Adds (Paired h0 h1 w (x + 2)) l h l'' h'' n r
paired_more {h0} {h1} {w} x e a b =
    record {
      runs = b.runs;
      kept = λ y z. b.kept y (a.kept y z);
      added = λ y g.
          ⊎_elim (λ k. b.kept y (a.added y (record { at = g.at; even = g.even; below = k; between = g.between })))
          (λ k.
          let q : g.at ≡ x = omega (arith, g.even, g.below) in
          b.added y (subst (λ (n : ℕ). Between h0 h1 w n y) q g.between))
          (lt_or_le (g.at + 1) x);
      only = λ y z.
          ⊎_elim
          (λ k. ⊎_elim inl (λ g. inr (record { at = g.at; even = g.even; below = omega (arith, g.below); between = g.between })) (a.only y k))
          (λ g. inr (record { at = x; even = e; below = omega arith; between = g })) (b.only y z);
    }

pub paired_end : {h0 h1 w : List ℕ} {m x : ℕ} {l h l' h' : List ℕ} {n r : ℕ} → x % 2 ≡ 0 → x ≤ m → m ≤ x + 1 → Adds (Paired h0 h1 w x) l h l' h' n r → Adds (Paired h0 h1 w m) l h l' h' n r
paired_end e p q a =
    adds_same
    (λ y g. record { at = g.at; even = g.even; below = omega (arith, g.below); between = g.between })
    (λ y g. record { at = g.at; even = g.even; below = omega (arith, g.even, g.below); between = g.between }) a

pub paired_row : {h0 h1 w : List ℕ} {m : ℕ} (y : ℕ) → Paired h0 h1 w m y → y < 16000
paired_row y g = g.between.row

-- gaps between the entries are open rows of the slab
module _ {v : List ℕ} {a b : ℕ} {h0 h1 w : List ℕ} {m : ℕ} (l : Loaded v a b h0 h1 w (sides v) m) where
  upper_is : (x y : ℕ) → x < m → y < m → upper h0 h1 w x y ≡ above a b (edge_at v (l.idx x)) (edge_at v (l.idx y))
  upper_is x y lx ly =
      let e = l.at x lx in
      let f = l.at y ly in
      rw (e.left, e.right, e.wide, f.left, f.right, f.wide) refl

  rank_is : (x : ℕ) → x < m →
      count_to (λ g. spans (edge_at v g) a && not (above a b (edge_at v (l.idx x)) (edge_at v g))) (sides v) ≡ not_upper h0 h1 w x m
  unfolding not_upper
  rank_is x lx =
      l.count (λ g. not (above a b (edge_at v (l.idx x)) (edge_at v g)))
      ∙ count_same _ _ m (λ y ly. ap not (sym (upper_is x y lx ly)))

  either : (p q c : ℕ) → min p q < c → (p < c) ⊎ (q < c)
  either p q c h = ⊎_elim inl (λ z. inr (omega arith)) (lt_or_le p c)

  gap_opens : (x y : ℕ) → Gap h0 h1 w m x y → Opens v a b (l.idx x) y
  gap_opens x y g =
      let e = l.at x g.here in
      let f = l.fits x g.here in
      record {
        here = e.here;
        edge = e.edge;
        odd = ap (λ (c : ℕ). c % 2) (rank_is x g.here) ∙ g.odd;
        low =
            rw (e.left, e.right, e.wide) at
            (⊎_elim {C = min (get_or h0 x 0) (get_or h1 x 0) < (y + 1) * get_or w x 0} (λ k. omega arith) (λ k. omega arith) (row_low (get_or h0 x 0) (get_or h1 x 0) (get_or w x 0) y f.some g.low));
        high = λ k kl s u.
            let p = l.onto k kl s in
            let d = l.at p.x p.below in
            subst (λ (n : ℕ). y * width (edge_at v n) < max (height (edge_at v n) a 1) (height (edge_at v n) b 1)) p.is
            (rw (d.left, d.right, d.wide) at
            (g.high p.x p.below
            (upper_is x p.x g.here p.below ∙ subst (λ (n : ℕ). above a b (edge_at v (l.idx x)) (edge_at v n) ≡ true) (sym p.is) u)));
      }

  opens_gap : (x y : ℕ) → x < m → y < 16000 → Opens v a b (l.idx x) y → Gap h0 h1 w m x y
  opens_gap x y lx ly t =
      let e = l.at x lx in
      let f = l.fits x lx in
      record {
        here = lx;
        odd = ap (λ (c : ℕ). c % 2) (sym (rank_is x lx)) ∙ t.odd;
        low =
            low_row (get_or h0 x 0) (get_or h1 x 0) (get_or w x 0) y f.some
            (either (get_or h0 x 0) (get_or h1 x 0) ((y + 1) * get_or w x 0) (rw (e.left, e.right, e.wide) t.low));
        row = ly;
        high = λ g gl u.
            let d = l.at g gl in
            rw (d.left, d.right, d.wide)
            (t.high (l.idx g) d.here d.edge (sym (upper_is x g lx gl) ∙ u));
      }

  -- the spanning edges are even in number
  even : m % 2 ≡ 0
  even =
      ⊎_elim
      (λ k.
      ap (λ (c : ℕ). c % 2)
      (sym (count_boundary (λ x. true) m m (omega arith) (λ x h. refl) (λ x h g. absurd (omega arith)))
      ∙ sym (l.count (λ g. true)) ∙ count_same _ _ (sides v) (λ g h. and-true (spans (edge_at v g) a)))
      ∙ spanning_even v a k)
      (λ k. let e : m ≡ 0 = omega (arith, l.most) in omega arith) (lt_or_le 0 (sides v))
    where
      and-true : (b : Bool) → (b && true) ≡ b
      and-true true = refl
      and-true false = refl

  pub pair_row : Rising h0 w m → Rising h1 w m → (y : ℕ) → Paired h0 h1 w m y → SlabRow v a b y
  pair_row r0 r1 y g =
      let p = pair_gap l.fits r0 r1 g.at y g.even g.below g.between in
      record { opened = record { i = l.idx g.at; opens = gap_opens g.at y p }; row = p.row }

  pub slab_adds : {lo hi lo' hi' : List ℕ} {n r : ℕ} → Rising h0 w m → Rising h1 w m → Adds (Paired h0 h1 w m) lo hi lo' hi' n r → Adds (SlabRow v a b) lo hi lo' hi' n r
  slab_adds r0 r1 s =
      adds_same
      (pair_row r0 r1)
      (λ y t.
      let o = t.opened.opens in
      let p = l.onto t.opened.i o.here o.edge in
      gap_pair l.fits r0 r1 p.x y even (opens_gap p.x y p.below t.row (subst (λ (n : ℕ). Opens v a b n y) (sym p.is) o)))
      s
