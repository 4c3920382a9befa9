-- The computed test of a unit cell says that it holds a point inside, and that of a cell with a gap says that it is covered.
-- Assumes nothing.
use mathlib.Core.Path.{◌≡◌, refl, ap, ap₂, sym, subst, ◌∙◌}
use mathlib.Core.Bool.{Bool, true, false, not, ◌&&◌, ◌||◌}
use mathlib.Core.List.{List}
use mathlib.Core.Logic.Iff
use mathlib.Core.Logic.{◌⊎◌, inl, inr, ⊎_elim, ◌↔◌}
use Prim.Native.Nat.{ℕ, ◌+◌, ◌*◌, ◌-◌, ◌%◌, ◌≤◌, ◌<◌, min, max}
use native.Mathlib.Omega.{arith}
use native.Mathlib.Nat.{mul-lt-mul_of_pos_right, lt_of_mul-lt-mul_right}
use lib.Dec.{ltb, leb, eqb}
use borrow.Author.Tests.{lt-ltb, le-leb, leb-true, ltb-true, eqb-true, eq-eqb}
use Rattle.defs.specs.Meaning.Outline.{edge_at, sides, spans, count_to, Ordered, KeepsOrder}
use Rattle.defs.specs.Meaning.Cell.{Covered, CoveredGap}
use Rattle.defs.specs.Computing.Test.{any_to}
use Rattle.defs.specs.Computing.Cells.{higher, not_higher, reaches, rises, open_above, opens, unitsb, raisedb, coveredb}
use Rattle.geom.proofs.Strip.{lt_or_le}
use Rattle.geom.proofs.Parity.{count_same}
use Rattle.laws.proofs.Tests.{Decides, and_left, and_right, and_both, all_to_at, all_to_of, any_to_at, any_to_of}
use Rattle.geom.proofs.Column.{Top, topmost, count_split, Met, not_lower, mid_trans, mid_irr}
use Rattle.geom.proofs.Cover.{S, H0, H1, W, positive, in_order, even, cover, meet}
use Rattle.geom.specs.Units.{InUnits, Raised}
use Rattle.geom.proofs.Windows.{gap_rows}

all4 : {a b c d : Bool} → a ≡ true → b ≡ true → c ≡ true → d ≡ true → (a && (b && (c && d))) ≡ true
all4 ea eb ec ed = ap₂ ◌&&◌ ea (ap₂ ◌&&◌ eb (ap₂ ◌&&◌ ec ed))

-- over one edge and up to the next: a height of b above j, and g not lower than b
carry : (j Wb Wg hb hg : ℕ) → 0 < Wg → j * Wb < hb → hb * Wg ≤ hg * Wb → j * Wg < hg
carry j Wb Wg hb hg gp h l = lt_of_mul-lt-mul_right Wb (omega (arith, mul-lt-mul_of_pos_right h gp))

module _ (o : List ℕ) (k : ℕ) (r : Ordered o k) where
  abbrev M : ℕ → Type 0
  M j = Met (sides o) (S o k) (H0 o k) (H1 o k) (W o k) (positive o k) (in_order o k r) j

  rank_is : (i : ℕ) → not_higher o k i ≡ count_to (λ g. S o k g && not (higher k (edge_at o i) (edge_at o g))) (sides o)
  unfolding not_higher
  rank_is i = count_same _ _ (sides o) (λ g l. rw (lt-ltb g (sides o) l))

  S_of : (i : ℕ) → i < sides o → spans (edge_at o i) k ≡ true → S o k i ≡ true
  S_of i l e = ap₂ ◌&&◌ (lt-ltb i (sides o) l) e

  met_rises : (j : ℕ) (t : M j) (g : ℕ) → g < sides o → (spans (edge_at o g) k && higher k (edge_at o t.a) (edge_at o g)) ≡ true →
      rises k j (edge_at o g) ≡ true
  unfolding higher rises
  met_rises j t g l e =
      let sg = S_of g l (and_left (spans (edge_at o g) k) _ e) in
      let n = t.next g l sg (and_right (spans (edge_at o g) k) _ e) in
      let gp = positive o k g sg in
      lt-ltb (j * W o k g) (max (H0 o k g) (H1 o k g))
      (⊎_elim
      (λ h.
      let z =
      carry j (W o k t.b) (W o k g) (H0 o k t.b) (H0 o k g) gp h
      (omega (arith, not_lower (sides o) (S o k) (H0 o k) (H1 o k) (W o k) (positive o k) (in_order o k r) g t.b 1 0 sg t.b_edge n))
      in
      omega arith)
      (λ h.
      let z =
      carry j (W o k t.b) (W o k g) (H1 o k t.b) (H1 o k g) gp h
      (omega (arith, not_lower (sides o) (S o k) (H0 o k) (H1 o k) (W o k) (positive o k) (in_order o k r) g t.b 0 1 sg t.b_edge n))
      in
      omega arith)
      t.high)

  met_opens : (j : ℕ) → (t : M j) → opens o k j t.a ≡ true
  unfolding opens higher reaches open_above
  met_opens j t =
      all4 (and_right (ltb t.a (sides o)) _ t.a_edge)
      (eq-eqb _ _ (ap (λ (c : ℕ). c % 2) (rank_is t.a) ∙ t.odd))
      (lt-ltb (min (H0 o k t.a) (H1 o k t.a)) ((j + 1) * W o k t.a)
      (⊎_elim (λ h. omega arith) (λ h. omega arith) t.low))
      (all_to_of _ (sides o) (λ g l. go g l (spans (edge_at o g) k && higher k (edge_at o t.a) (edge_at o g)) refl))
    where
      go : (g : ℕ) → g < sides o → (b : Bool) → (spans (edge_at o g) k && higher k (edge_at o t.a) (edge_at o g)) ≡ b →
          (not b || rises k j (edge_at o g)) ≡ true
      go g l true e = met_rises j t g l e
      go g l false e = refl

  opens_met : 0 < sides o → (j i : ℕ) → i < sides o → opens o k j i ≡ true → M j
  unfolding opens higher reaches open_above rises
  opens_met some j i l e =
      ⊎_elim (λ z. absurd (omega (arith, odd, z, even o k some, count_split (S o k) (λ g. higher k (edge_at o i) (edge_at o g)) (sides o))))
      found
      (topmost (sides o) above_i (λ x y. m y x)
      (λ a b c pa pb pc ab bc.
      mid_trans (sides o) (S o k) (H0 o k) (H1 o k) (W o k) (positive o k) (in_order o k r) c b a
      (and_left (S o k c) _ pc) (and_left (S o k b) _ pb) (and_left (S o k a) _ pa) bc ab)
      (λ a. mid_irr (sides o) (S o k) (H0 o k) (H1 o k) (W o k) (positive o k) (in_order o k r) a))
    where
      m : ℕ → ℕ → Bool
      m x y = higher k (edge_at o x) (edge_at o y)

      above_i : ℕ → Bool
      above_i g = S o k g && m i g

      rest1 : (eqb (not_higher o k i % 2) 1 && (reaches k j (edge_at o i) && open_above o k j i)) ≡ true
      rest1 = and_right (spans (edge_at o i) k) _ e

      rest2 : (reaches k j (edge_at o i) && open_above o k j i) ≡ true
      rest2 = and_right (eqb (not_higher o k i % 2) 1) _ rest1

      odd : count_to (λ g. S o k g && not (m i g)) (sides o) % 2 ≡ 1
      odd = ap (λ (c : ℕ). c % 2) (sym (rank_is i)) ∙ eqb-true _ _ (and_left (eqb (not_higher o k i % 2) 1) _ rest1)

      low : min (H0 o k i) (H1 o k i) < (j + 1) * W o k i
      low = ltb-true _ _ (and_left (reaches k j (edge_at o i)) _ rest2)

      open_at : (g : ℕ) → g < sides o → (not (spans (edge_at o g) k && m i g) || rises k j (edge_at o g)) ≡ true
      open_at g l = all_to_at _ (sides o) g (and_right (reaches k j (edge_at o i)) _ rest2) l

      either : (a b c : ℕ) → min a b < c → (a < c) ⊎ (b < c)
      either a b c h = ⊎_elim inl (λ z. inr (omega arith)) (lt_or_le a c)

      either_max : (a b c : ℕ) → c < max a b → (c < a) ⊎ (c < b)
      either_max a b c h = ⊎_elim inl (λ z. inr (omega arith)) (lt_or_le c a)

      found : Top (sides o) above_i (λ x y. m y x) → M j
      found t =
          let sb = and_left (S o k t.top) _ t.holds in
          let mb = and_right (S o k t.top) _ t.holds in
          let both : (spans (edge_at o t.top) k && m i t.top) ≡ true =
          ap₂ ◌&&◌ (and_right (ltb t.top (sides o)) _ sb) mb
          in
          record {
            a = i;
            b = t.top;
            a_edge = S_of i l (and_left (spans (edge_at o i) k) _ e);
            b_edge = sb;
            odd = odd;
            upper = mb;
            next = λ g gl sg mg. t.none g gl (ap₂ ◌&&◌ sg mg);
            low = either (H0 o k i) (H1 o k i) ((j + 1) * W o k i) low;
            high =
                either_max (H0 o k t.top) (H1 o k t.top) (j * W o k t.top)
                (ltb-true _ _
                (subst (λ (b : Bool). (not b || rises k j (edge_at o t.top)) ≡ true) both (open_at t.top t.below)));
          }

  -- unit cell (k, j)
  pub unit_covered : 0 < sides o → (j : ℕ) → (any_to (opens o k j) (sides o) ≡ true) ↔ Covered o 1 k j
  unit_covered some j = (
    λ e.
        let s = any_to_at (opens o k j) (sides o) e in
        cover o k r j (opens_met some j s.i s.below s.holds),
    λ c.
        let t = meet o k r some j c in
        any_to_of (opens o k j) (sides o) t.a (ltb-true _ _ (and_left (ltb t.a (sides o)) _ t.a_edge))
        (met_opens j t),
  )

-- the unit columns from a to b
pub units_decide : (v : List ℕ) → KeepsOrder v → 0 < sides v → (a b j : ℕ) → Decides (unitsb v a (b - a) j) (InUnits v a b j)
unfolding unitsb KeepsOrder
units_decide v keeps some a b j = (
  λ e.
      let s = any_to_at (λ k. any_to (opens v (a + k) j) (sides v)) (b - a) e in
      record {
        k = a + s.i;
        from = omega arith;
        to = omega (arith, s.below);
        there = (unit_covered v (a + s.i) (keeps (a + s.i)) some j).0 s.holds;
      },
  λ u.
      let e : u.k ≡ a + (u.k - a) = omega (arith, u.from) in
      any_to_of (λ k. any_to (opens v (a + k) j) (sides v)) (b - a) (u.k - a) (omega (arith, u.from, u.to))
      (subst (λ (n : ℕ). any_to (opens v n j) (sides v) ≡ true) e ((unit_covered v u.k (keeps u.k) some j).1 u.there)),
)

pub raised_decides : (g : ℕ) (f : ℕ → Bool) (P : ℕ → Type 0) → ((j : ℕ) → Decides (f j) (P j)) → (j : ℕ) →
    Decides (raisedb g f j) (Raised g P j)
unfolding raisedb
raised_decides g f P d j = (
  λ e.
      let s = any_to_at (λ b. leb b j && f (j - b)) (g + 1) e in
      let l = leb-true s.i j (and_left (leb s.i j) _ s.holds) in
      record {
        row = j - s.i;
        holds = (d (j - s.i)).0 (and_right (leb s.i j) _ s.holds);
        below = omega arith;
        rows = omega (arith, s.below);
      },
  λ r.
      let e : r.row ≡ j - (j - r.row) = omega (arith, r.below) in
      any_to_of (λ b. leb b j && f (j - b)) (g + 1) (j - r.row) (omega (arith, r.rows))
      (and_both (le-leb (j - r.row) j (omega arith)) (subst (λ (n : ℕ). f n ≡ true) e ((d r.row).1 r.holds))),
)

-- cell (i, j) at resolution R with gap g
pub gap_covered : (v : List ℕ) → KeepsOrder v → 0 < sides v → (R g i j : ℕ) → 1 ≤ R →
    Decides (coveredb v R g i j) (CoveredGap v R g i j)
unfolding coveredb
gap_covered v keeps some R g i j Rpos =
    Iff.trans
    (raised_decides g _ (InUnits v (i * R - g) ((i + 1) * R)) (units_decide v keeps some (i * R - g) ((i + 1) * R)) j)
    (Iff.symm (gap_rows v R g i j Rpos))
