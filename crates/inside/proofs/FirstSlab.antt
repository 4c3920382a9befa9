-- Where the two lowest edges of a slab are apart, a row is open between them, and so a cell is covered.
-- Assumes nothing.
use mathlib.Core.Path.{◌≡◌, refl, sym, subst}
use mathlib.Core.Bool.{true}
use mathlib.Core.List.{List}
use Prim.Native.Nat.{ℕ, ◌+◌, ◌*◌, ◌-◌, ◌/◌, ◌≤◌, ◌<◌, min, max}
use native.Mathlib.Omega.{arith}
use native.Mathlib.Nat.{mul-le-mul_right, lt_of_mul-lt-mul_right, div-add-mod}
use lib.ListN.{length, get_or}
use borrow.Author.Tests.{lt-ltb}
use Rattle.defs.specs.Meaning.Outline.{sides, KeepsOrder}
use Rattle.defs.specs.Meaning.Turn.{turned}
use Rattle.geom.proofs.Extent.{sides_turned}
use Rattle.geom.proofs.Checks.{some_run}
use Rattle.outline.specs.Vertex.{Lent}
use Rattle.slabs.specs.Slab.{Neat, InSlab}
use Rattle.slabs.proofs.Cut.{slab_covered}
use Rattle.section.specs.Slabs.{HeldAt, Stock}
use Rattle.gaps.proofs.Adding.{pair_row}
use Rattle.inside.specs.Cell.{LowestApart, HasCell}
use Rattle.inside.proofs.OneColumn.{some_side, unit_cell}

-- new buffers, and no slab in them
pub new_stock : {h0 h1 w : List ℕ} (v : List ℕ) {a b m c : ℕ} → length h0 ≡ 64 → length h1 ≡ 64 → length w ≡ 64 → b ≡ 0 → c ≡ 0 → Stock v a b m c h0 h1 w
new_stock v e f g eb ec =
    record { left = e; right = f; wide = g; kept = λ z. absurd (omega arith); next = record { none = λ i l z. omega arith } }

-- the row at the foot of the lower of two entries
foot_row : (p q d p' q' d' : ℕ) → 0 < d → p < 16000 * d → (p + q) * d' < (p' + q') * d →
    (min p q / d < 16000) × (min p q / d * d' < max p' q')
foot_row p q d p' q' d' dp low apart = go (min p q / d) (omega (arith, div-add-mod (min p q) d))
  where
    go : (y : ℕ) → y * d ≤ min p q → (y < 16000) × (y * d' < max p' q')
    go y h =
        let lower : min p q + min p q ≤ p + q = omega arith in
        let upper : p' + q' ≤ max p' q' + max p' q' = omega arith in (
          lt_of_mul-lt-mul_right d (omega arith),
          lt_of_mul-lt-mul_right d (omega (arith, mul-le-mul_right d' h, mul-le-mul_right d' lower, mul-le-mul_right d upper)),
        )

module _ (o : List ℕ) (t : ℕ) {a b m c : ℕ} {h0 h1 w : List ℕ} (lent : Lent o) (keeps : KeepsOrder (turned o t))
    (k : HeldAt (turned o t) 0 a b m c h0 h1 w) where
  abbrev v : List ℕ
  v = turned o t

  some_sides : 0 < sides v
  some_sides = subst (λ (n : ℕ). 0 < n) (sym (sides_turned o t)) (some_side lent)

  open_cell : (y : ℕ) → InSlab v a b y → HasCell o t true
  open_cell y z =
      let e : a + (b - a) ≡ b = omega (arith, k.kept.neat.wide) in
      let n = subst (λ (x : ℕ). Neat v a x) (sym e) k.kept.neat in
      let u = slab_covered v keeps some_sides a (b - a) n y (subst (λ (x : ℕ). InSlab v a x y) (sym e) z) in
      record {
        every = λ R Rpos.
            (λ q. (some_run o t R keeps (some_side lent) Rpos 0).1 (u.k / R, y, unit_cell R u.k y Rpos u.there), λ q. refl);
      }

  pub apart_cell : LowestApart h0 h1 w m → HasCell o t true
  apart_cell g =
      let f = k.kept.loaded.fits 0 (omega (arith, g.two)) in
      let r = foot_row (get_or h0 0 0) (get_or h1 0 0) (get_or w 0 0) (get_or h0 1 0) (get_or h1 1 0) (get_or w 1 0) f.some g.low g.apart in
      let y = min (get_or h0 0 0) (get_or h1 0 0) / get_or w 0 0 in
      open_cell y
      (pair_row k.kept.loaded k.kept.left k.kept.right y
      (record {
        at = 0;
        even = refl;
        below = omega (arith, g.two);
        between = record { apart = lt-ltb _ _ g.apart; low = omega arith; row = r.0; high = r.1 };
      })).opened
