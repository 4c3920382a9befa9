-- Runs kept as lows and highs, read as a list: runs that are apart by index are apart as a list, and the list has their rows. So
-- the runs that `column` leaves are those of its column: their rows are the covered ones, and such a list is the only one.
-- Assumes nothing.
use mathlib.Core.Path.{◌≡◌, ap, sym, subst, ◌∙◌}
use mathlib.Core.Bool.{true}
use mathlib.Core.Logic.Iff
use mathlib.Core.Logic.{◌↔◌}
use mathlib.Core.List.{List}
use Prim.Native.Nat.{ℕ, zero, suc, ◌+◌, ◌*◌, ◌-◌, ◌≤◌, ◌<◌, min}
use native.Mathlib.Omega.{arith}
use native.Mathlib.Nat.{zero-add}
use lib.ListN.{get_or}
use Rattle.laws.proofs.Lists.{list_from_at, length-list_from}
use Rattle.defs.specs.Meaning.Outline.{sides, KeepsOrder}
use Rattle.defs.specs.Meaning.Turn.{turned, extent_x, extent_y}
use Rattle.defs.specs.Computing.Test.{list_from}
use Rattle.defs.specs.Computing.Cells.{Rows, coveredb, in_rows}
use Rattle.geom.proofs.Stretches.{Among, among_of, of_among}
use Rattle.geom.proofs.RunLists.{ApartFrom, place, among_at, place_holds, stretches_only}
use Rattle.geom.proofs.RunLists.{Apart as ApartList}
use Rattle.geom.proofs.Extent.{sides_turned}
use Rattle.geom.proofs.Windows.{gap_rows}
use Rattle.geom.proofs.Computed.{gap_covered}
use Rattle.geom.proofs.PieceCells.{within, gap_within}
use Rattle.join.specs.Runs.{Apart, Holds}
use Rattle.outline.specs.Vertex.{Lent}
use Rattle.geom.specs.Units.{InUnits, Raised}
use Rattle.gapcolumn.specs.Gap.{GapColumnOf}
use Rattle.cells.specs.Columns.{pair_at, pairs, column_runs}

pair_is : (l h : List ℕ) (n j : ℕ) → j < n → get_or (pairs l h n) j (pair_at l h 0) ≡ pair_at l h j
pair_is l h n j s = list_from_at (pair_at l h) 0 n j (pair_at l h 0) s ∙ ap (pair_at l h) (zero-add j)

module _ {l h : List ℕ} {n : ℕ} (a : Apart l h n) where
  apart_from : (b k m : ℕ) → k + m ≤ n → (0 < m → b ≤ get_or l k 0) → ApartFrom b (list_from (pair_at l h) k m)
  unfolding ApartFrom list_from
  apart_from b k zero w f = tt
  apart_from b k (suc m) w f = (
    f (omega arith),
    a.full k (omega arith),
    apart_from (get_or h k 0 + 1) (suc k) m (omega arith)
        (λ p. omega (arith, a.apart k (suc k) (omega arith) (omega arith))),
  )

  pub pairs_apart : ApartList (pairs l h n)
  pairs_apart = apart_from 0 0 n (omega arith) (λ p. omega arith)

  pub pairs_hold : (y : ℕ) → (in_rows (pairs l h n) y ≡ true) ↔ Holds l h n y
  pairs_hold y = (λ e. forth (among_of (pairs l h n) y e), λ s. of_among (pairs l h n) y (back s))
    where
      forth : Among (pairs l h n) y → Holds l h n y
      forth c =
          let p = place_holds (pair_at l h 0) 0 (pairs l h n) y pairs_apart c in
          let j : ℕ = place (pairs l h n) y in
          let s = subst (λ (m : ℕ). j < m) (length-list_from (pair_at l h) 0 n) p.0 in
          let e = pair_is l h n j s in
          record {
            which = j;
            among = s;
            low = subst (λ (r : Rows). r.low ≤ y) e p.1;
            high = subst (λ (r : Rows). y < r.high) e p.2;
          }

      back : Holds l h n y → Among (pairs l h n) y
      back s =
          let e = sym (pair_is l h n s.which s.among) in
          among_at (pair_at l h 0) (pairs l h n) s.which y
          (subst (λ (m : ℕ). s.which < m) (sym (length-list_from (pair_at l h) 0 n)) s.among)
          (subst (λ (r : Rows). r.low ≤ y) e s.low) (subst (λ (r : Rows). y < r.high) e s.high)

-- Column i, from `from` on. No unit column past the extent w covers a row, so cutting the last columns at w takes none away.
module _
    {o : List ℕ}
    (lent : Lent o)
    {t : ℕ}
    (R g i : ℕ)
    {w from : ℕ}
    (turn : t ≤ 3)
    (keeps : KeepsOrder (turned o t))
    (wide : w ≡ extent_x o t)
    (least : 1 ≤ R)
    (starts : from ≡ i * R) where
  some : 0 < sides o
  some = omega (arith, lent.some)

  some_turned : 0 < sides (turned o t)
  some_turned = subst (λ (n : ℕ). 0 < n) (sym (sides_turned o t)) some

  abbrev Units : ℕ → Type 0
  Units = InUnits (turned o t) (i * R - g) ((i + 1) * R)

  units_cut : (y : ℕ) → InUnits (turned o t) (from - g) (min (from + R) w) y ↔ Units y
  units_cut y = (
    λ u. record { k = u.k; from = omega (arith, u.from); to = omega (arith, u.to); there = u.there },
    λ u.
        let c = within o t 1 keeps some (omega arith) u.k y u.there in
        record { k = u.k; from = omega (arith, u.from); to = omega (arith, u.to, c.column); there = u.there },
  )

  raised_cut : (y : ℕ) → Raised g (InUnits (turned o t) (from - g) (min (from + R) w)) y ↔ Raised g Units y
  raised_cut y = (
    λ z. record { row = z.row; holds = (units_cut z.row).0 z.holds; below = z.below; rows = z.rows },
    λ z. record { row = z.row; holds = (units_cut z.row).1 z.holds; below = z.below; rows = z.rows },
  )

  covered_rows : (y : ℕ) → Raised g Units y ↔ ((y < extent_y o t + g) × (coveredb (turned o t) R g i y ≡ true))
  covered_rows y =
      let d = gap_covered (turned o t) keeps some_turned R g i y least in
      let w = gap_rows (turned o t) R g i y least in (
        λ z. let c = w.1 z in ((gap_within o t R g keeps some least i y c).row, d.1 c),
        λ p. w.0 (d.0 p.1),
      )

  pub column_runs_lem : {h0 h1 d l h : List ℕ} {r a b m c : ℕ} → GapColumnOf (turned o t) from R g w h0 h1 d l h r a b m c →
      pairs l h r ≡ column_runs o t R g i
  unfolding column_runs
  column_runs_lem {l = l} {h = h} {r = r} c =
      stretches_only (coveredb (turned o t) R g i) (extent_y o t + g) (pairs l h r) (pairs_apart c.runs)
      (λ y. Iff.trans (pairs_hold c.runs y) (Iff.trans (c.rows y) (Iff.trans (raised_cut y) (covered_rows y))))
