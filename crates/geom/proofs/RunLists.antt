-- Rising stretches of rows with a row between each two are the runs of their rows, from the lowest on: each stretch is a run, each run
-- is one of them, no other such list has the same rows, and `stretches` computes it.
-- Assumes nothing.
use mathlib.Core.Path.{◌≡◌, refl, ap, ap₂, sym}
use mathlib.Core.Logic.Iff
use mathlib.Core.Logic.{inl, inr, ⊎_elim, ◌↔◌, ◌≢◌}
use mathlib.Core.Bool.{Bool, true, false, cond}
use mathlib.Core.List.{List, [], ◌∷◌}
use Prim.Native.Nat.{ℕ, zero, suc, ◌+◌, ◌-◌, ◌≤◌, ◌<◌}
use native.Mathlib.Omega.{arith}
use lib.Dec.{ltb, eqb}
use lib.ListN.{length, get_or}
use borrow.Author.Tests.{lt-ltb, le-ltb, eqb-false}
use Rattle.defs.specs.Meaning.Cell.{Cells, Run}
use Rattle.defs.specs.Computing.Cells.{Rows, join_row, stretches, in_rows}
use Rattle.geom.proofs.Strip.{le_or_lt}
use Rattle.geom.proofs.Stretches.{Valid, Among, among_of, of_among, stretches_are}

-- Rising stretches from row b on, each with a row, and a row between each two that follow each other.
unfoldable pub ApartFrom : ℕ → List Rows → Type 0
ApartFrom b [] = Unit {0}
ApartFrom b (r ∷ rs) = (b ≤ r.low) × (r.low < r.high) × ApartFrom (r.high + 1) rs

abbrev pub Apart : List Rows → Type 0
Apart rs = ApartFrom 0 rs

pub apart_valid : (b : ℕ) (rs : List Rows) → ApartFrom b rs → Valid rs
unfolding ApartFrom Valid
apart_valid b [] a = tt
apart_valid b (r ∷ rs) a = (a.1, apart_valid (r.high + 1) rs a.2)

from_lower : (n : ℕ) (rs : List Rows) → ApartFrom (suc n) rs → ApartFrom n rs
unfolding ApartFrom
from_lower n [] a = tt
from_lower n (r ∷ rs) a = (omega arith, a.1, a.2)

join_apart : (n : ℕ) (rs : List Rows) → ApartFrom (suc n) rs → ApartFrom n (join_row n rs)
unfolding ApartFrom join_row
join_apart n [] a = omega arith
join_apart n (r ∷ rs) a = go (eqb r.low (n + 1)) refl
  where
    go : (t : Bool) → eqb r.low (n + 1) ≡ t →
        ApartFrom n (cond t (record { low = n; high = r.high } ∷ rs) (record { low = n; high = n + 1 } ∷ (r ∷ rs)))
    go true e = (omega arith, omega arith, a.2)
    go false e = (omega arith, omega arith, (omega (arith, eqb-false r.low (n + 1) e), a.1, a.2))

-- rows are taken from n - 1 down to 0, and what is there already begins at n or later
stretches_from : (f : ℕ → Bool) (n : ℕ) (rs : List Rows) → ApartFrom n rs → Apart (stretches f n rs)
unfolding stretches
stretches_from f zero rs a = a
stretches_from f (suc n) rs a = stretches_from f n (cond (f n) (join_row n rs) rs) (go (f n))
  where
    go : (t : Bool) → ApartFrom n (cond t (join_row n rs) rs)
    go true = join_apart n rs a
    go false = from_lower n rs a

pub stretches_apart : (f : ℕ → Bool) (n : ℕ) → Apart (stretches f n [])
unfolding ApartFrom
stretches_apart f n = stretches_from f n [] tt

-- the rows of a list from row b on are not below b
pub among_from : (b : ℕ) (rs : List Rows) (j : ℕ) → ApartFrom b rs → Among rs j → b ≤ j
unfolding ApartFrom Among
among_from b [] j a c = absurd c
among_from b (r ∷ rs) j a c =
    ⊎_elim (λ h. omega arith) (λ t. omega (arith, among_from (r.high + 1) rs j a.2 t)) c

-- Two such lists, where each row of the one, r ∷ rs, is a row of the other, q ∷ qs: then q begins no later than r, where they begin
-- together q ends no sooner, and where they end together too, each row of rs is one of qs.
module _
    (b c : ℕ)
    (r q : Rows)
    (rs qs : List Rows)
    (rs-apart : ApartFrom b (r ∷ rs))
    (qs-apart : ApartFrom c (q ∷ qs))
    (within : (j : ℕ) → Among (r ∷ rs) j → Among (q ∷ qs) j) where
  starts_no_later : q.low ≤ r.low
  unfolding ApartFrom Among
  starts_no_later =
      among_from q.low (q ∷ qs) r.low (omega arith, qs-apart.1, qs-apart.2) (within r.low (inl (omega arith)))

  ends_no_sooner : q.low ≡ r.low → r.high ≤ q.high
  unfolding ApartFrom Among
  ends_no_sooner e =
      ⊎_elim (λ l. l)
      (λ l.
      ⊎_elim (λ h. absurd (omega arith)) (λ t. absurd (omega (arith, among_from (q.high + 1) qs q.high qs-apart.2 t)))
      (within q.high (inl (omega arith))))
      (le_or_lt r.high q.high)

  rest_within : q.high ≡ r.high → (j : ℕ) → Among rs j → Among qs j
  unfolding ApartFrom Among
  rest_within e j t =
      ⊎_elim (λ h. absurd (omega (arith, among_from (r.high + 1) rs j rs-apart.2 t))) (λ u. u) (within j (inr t))

same_list : (b c : ℕ) (rs qs : List Rows) → ApartFrom b rs → ApartFrom c qs → ((j : ℕ) → Among rs j ↔ Among qs j) → rs ≡ qs
unfolding ApartFrom Among
same_list b c [] [] x y same = refl
same_list b c [] (q ∷ qs) x y same = absurd ((same q.low).1 (inl (omega arith)))
same_list b c (r ∷ rs) [] x y same = absurd ((same r.low).0 (inl (omega arith)))
same_list b c (r ∷ rs) (q ∷ qs) x y same =
    ap₂ ◌∷◌ (ap₂ (λ (l h : ℕ). record { low = l; high = h }) low_same high_same)
    (same_list (r.high + 1) (q.high + 1) rs qs x.2 y.2
    (λ j. (rest_within b c r q rs qs x y forth (sym high_same) j, rest_within c b q r qs rs y x back high_same j)))
  where
    forth : (j : ℕ) → Among (r ∷ rs) j → Among (q ∷ qs) j
    forth j = (same j).0

    back : (j : ℕ) → Among (q ∷ qs) j → Among (r ∷ rs) j
    back j = (same j).1

    low_same : r.low ≡ q.low
    low_same = omega (arith, starts_no_later b c r q rs qs x y forth, starts_no_later c b q r qs rs y x back)

    high_same : r.high ≡ q.high
    high_same =
        omega (arith, ends_no_sooner b c r q rs qs x y forth (sym low_same), ends_no_sooner c b q r qs rs y x back low_same)

-- the rows say the list
pub one_list : (rs qs : List Rows) → Apart rs → Apart qs → ((j : ℕ) → (in_rows rs j ≡ true) ↔ (in_rows qs j ≡ true)) → rs ≡ qs
one_list rs qs x y same =
    same_list 0 0 rs qs x y
    (λ j. (λ c. among_of qs j ((same j).0 (of_among rs j c)), λ c. among_of rs j ((same j).1 (of_among qs j c))))

pub stretches_only : (f : ℕ → Bool) (n : ℕ) (rs : List Rows) → Apart rs →
    ((j : ℕ) → (in_rows rs j ≡ true) ↔ ((j < n) × (f j ≡ true))) → rs ≡ stretches f n []
stretches_only f n rs a same =
    one_list rs (stretches f n []) a (stretches_apart f n) (λ j. Iff.trans (same j) (Iff.symm (stretches_are f n j)))

-- Two runs of a column with a row in common: neither begins before the other, and neither ends after it.
common_row : {C : Cells} {i low high low' high' : ℕ} → Run C i low high → Run C i low' high' → (j : ℕ) →
    (low ≤ j) × (j < high) → (low' ≤ j) × (j < high') → (low ≤ low') × (high ≤ high')
common_row {low = low} {high = high} {low' = low'} {high' = high'} r s j h k = (
  ⊎_elim (λ l. l)
      (λ l. absurd (r.no_lower (low - 1) (omega arith) (s.unbroken (low - 1) (omega arith) (omega arith))))
      (le_or_lt low low'),
  ⊎_elim (λ l. l) (λ l. absurd (s.no_higher (r.unbroken high' (omega arith) l))) (le_or_lt high high'),
)

-- the index of the stretch that holds row j
unfoldable pub place : List Rows → ℕ → ℕ
place [] j = 0
place (r ∷ rs) j = cond (ltb j r.high) 0 (suc (place rs j))

-- Stretches by their index. What stands past the end of a list, d, plays no part.
module _ (d : Rows) where
  stretch_from : (b : ℕ) (rs : List Rows) (k : ℕ) → ApartFrom b rs → k < length rs →
      (b ≤ (get_or rs k d).low) × ((get_or rs k d).low < (get_or rs k d).high)
  unfolding ApartFrom
  stretch_from b [] k a l = absurd (omega arith)
  stretch_from b (r ∷ rs) zero a l = (a.0, a.1)
  stretch_from b (r ∷ rs) (suc k) a l = omega (arith, stretch_from (r.high + 1) rs k a.2 (omega arith))

  -- a stretch ends below the next one
  pub stretches_rise : (b : ℕ) (rs : List Rows) (k : ℕ) → ApartFrom b rs → suc k < length rs →
      (get_or rs k d).high < (get_or rs (suc k) d).low
  unfolding ApartFrom
  stretches_rise b [] k a l = absurd (omega arith)
  stretches_rise b (r ∷ rs) zero a l = omega (arith, stretch_from (r.high + 1) rs 0 a.2 (omega arith))
  stretches_rise b (r ∷ rs) (suc k) a l = stretches_rise (r.high + 1) rs k a.2 (omega arith)

  pub among_at : (rs : List Rows) (k j : ℕ) → k < length rs → (get_or rs k d).low ≤ j → j < (get_or rs k d).high → Among rs j
  unfolding Among
  among_at [] k j l x y = absurd (omega arith)
  among_at (r ∷ rs) zero j l x y = inl (x, y)
  among_at (r ∷ rs) (suc k) j l x y = inr (among_at rs k j (omega arith) x y)

  -- no row lies right below or right above a stretch
  none_beside : (b : ℕ) (rs : List Rows) (k j : ℕ) → ApartFrom b rs → k < length rs → Among rs j →
      (j + 1 ≢ (get_or rs k d).low) × (j ≢ (get_or rs k d).high)
  unfolding ApartFrom Among
  none_beside b [] k j a l c = absurd (omega arith)
  none_beside b (r ∷ rs) zero j a l c =
      ⊎_elim (λ h. omega arith) (λ t. omega (arith, among_from (r.high + 1) rs j a.2 t)) c
  none_beside b (r ∷ rs) (suc k) j a l c =
      ⊎_elim (λ h. omega (arith, stretch_from (r.high + 1) rs k a.2 (omega arith)))
      (λ t. none_beside (r.high + 1) rs k j a.2 (omega arith) t) c

  -- the place of a row is the index of its stretch
  pub place_holds : (b : ℕ) (rs : List Rows) (j : ℕ) → ApartFrom b rs → Among rs j →
      (place rs j < length rs) × ((get_or rs (place rs j) d).low ≤ j) × (j < (get_or rs (place rs j) d).high)
  unfolding ApartFrom Among place
  place_holds b [] j a c = absurd c
  place_holds b (r ∷ rs) j a c =
      ⊎_elim (λ h. rw (lt-ltb j r.high h.1) (omega arith))
      (λ t.
      rw (le-ltb j r.high (omega (arith, among_from (r.high + 1) rs j a.2 t)))
      (omega (arith, place_holds (r.high + 1) rs j a.2 t)))
      c

  pub place_of : (b : ℕ) (rs : List Rows) (k j : ℕ) → ApartFrom b rs → k < length rs → (get_or rs k d).low ≤ j →
      j < (get_or rs k d).high → place rs j ≡ k
  unfolding ApartFrom place
  place_of b [] k j a l x y = absurd (omega arith)
  place_of b (r ∷ rs) zero j a l x y = rw (lt-ltb j r.high y)
  place_of b (r ∷ rs) (suc k) j a l x y =
      rw (le-ltb j r.high (omega (arith, stretch_from (r.high + 1) rs k a.2 (omega arith))))
      (ap suc (place_of (r.high + 1) rs k j a.2 (omega arith) x y))

-- The stretches of a column are its runs: rs has the rows of column i of C.
module _
    (d : Rows)
    (C : Cells)
    (i : ℕ)
    (rs : List Rows)
    (apart : Apart rs)
    (rows : (j : ℕ) → C i j ↔ (in_rows rs j ≡ true)) where
  pub stretch_is_run : (k : ℕ) → k < length rs → Run C i (get_or rs k d).low (get_or rs k d).high
  stretch_is_run k l =
      record {
        some = (stretch_from d 0 rs k apart l).1;
        unbroken = λ j x y. (rows j).1 (of_among rs j (among_at d rs k j l x y));
        no_lower = λ j e c. (none_beside d 0 rs k j apart l (among_of rs j ((rows j).0 c))).0 e;
        no_higher = λ c. (none_beside d 0 rs k _ apart l (among_of rs _ ((rows _).0 c))).1 refl;
      }

  -- a run is the stretch at the place of its lowest row: the two have that row in common
  pub run_is_stretch : {low high : ℕ} → Run C i low high →
      (place rs low < length rs) × (get_or rs (place rs low) d ≡ record { low = low; high = high })
  run_is_stretch {low} {high} r =
      let h = place_holds d 0 rs low apart (among_of rs low ((rows low).0 (r.unbroken low (omega arith) r.some))) in
      let s = stretch_is_run (place rs low) h.0 in
      let x = common_row r s low (omega arith, r.some) (h.1, h.2) in
      let y = common_row s r low (h.1, h.2) (omega arith, r.some) in
      (h.0, ap₂ (λ (l h : ℕ). record { low = l; high = h }) (omega arith) (omega arith))
