-- The walk of a turn ends at the turn's least free position: its heights rise, and none that it leaves out is free. So W + 1 - h steps
-- are enough for a column, and no column has more. Assumes nothing.
use mathlib.Core.Path.{◌≡◌, refl, sym, ap, ◌∙◌}
use mathlib.Core.Logic.{◌⊎◌, inl, inr}
use mathlib.Core.Bool.{Bool, true, false, cond, not, ◌||◌, false≢true}
use mathlib.Core.List.{List, [], ◌∷◌}
use Prim.Native.Nat.{ℕ, zero, suc, ◌+◌, ◌-◌, ◌≤◌, ◌<◌}
use native.Mathlib.Omega.{arith}
use lib.Dec.{leb}
use lib.ListN.{length, get_or}
use borrow.Author.Tests.{leb-true, leb-false, lt-leb}
use Rattle.std.specs.Prelude.{Option, Some, None}
use Rattle.defs.specs.declared.Position.{Position}
use Rattle.defs.specs.Meaning.Turn.{extent_x, extent_y}
use Rattle.defs.specs.Meaning.Placing.{columns_for}
use Rattle.defs.specs.Computing.Test.{any, first_from}
use Rattle.defs.specs.Computing.Cells.{Rows, piece_runs}
use Rattle.defs.specs.Computing.Search.{freeb, drop_n, position, first_free}
use Rattle.defs.specs.Computing.Walk.{Clash, first_clash, next_height, goes_on, heights_from, heights_in, columns_from, turn_walk, free_among, end_from, walk_end}
use Rattle.laws.proofs.First.{from_here, none_of}
use Rattle.geom.proofs.Strip.{lt_or_le}
use Rattle.looks.proofs.Bound.{clash_rises}
use Rattle.looks.proofs.Clashes.{clashed, free_test, clash_taken}
use Rattle.looks.proofs.Between.{between_taken}

-- A search from y on that finds nothing below z is one from z on.
skip : {A : Type 0} (f : ℕ → Option A) (end d y z : ℕ) → y + d ≡ z → ((u : ℕ) → y ≤ u → u < z → f u ≡ None) →
    first_from f y (end - y) ≡ first_from f z (end - z)
skip f end zero y z to h = let e : y ≡ z = omega arith in ap (λ (k : ℕ). first_from f k (end - k)) e
skip f end (suc d) y z to h = go (lt_or_le y end) (skip f end d (suc y) z (omega arith) (λ u a b. h u (omega arith) b))
  where
    go : (y < end) ⊎ (end ≤ y) → first_from f (suc y) (end - suc y) ≡ first_from f z (end - z) →
        first_from f y (end - y) ≡ first_from f z (end - z)
    go (inl l) later =
        let more : end - y ≡ suc (end - suc y) = omega arith in
        ap (first_from f y) more ∙ from_here f y (end - suc y) None (h y (omega arith) (omega arith)) ∙ later
    go (inr l) later = none_of f y (end - y) (λ u a b. absurd (omega arith)) ∙ sym (none_of f z (end - z) (λ u a b. absurd (omega arith)))

-- One column: h is the piece's height, so the heights that fit are those below `end`.
module _ (W h t c : ℕ) (piece there : List (List Rows)) where
  abbrev end : ℕ
  end = (W + 1) - h

  abbrev here : ℕ → Option Position
  here y = cond (freeb y piece there) (Some (position t c y)) None

  abbrev or_else : Option Position → Option Position → Option Position
  or_else x later = elim x [ None ↦ later | Some a ↦ Some a ]

  -- past the last height nothing is found
  nothing_past : (y : ℕ) (later : Option Position) → end ≤ y → or_else (first_from here y (end - y)) later ≡ later
  nothing_past y later l = ap (λ (x : Option Position). or_else x later) (none_of here y (end - y) (λ u a b. absurd (omega arith)))

  column_finds : (n y : ℕ) (later : Option Position) → end - y ≤ n →
      free_among t c piece there (heights_from W h piece there n y) later ≡ or_else (first_from here y (end - y)) later
  unfolding heights_from goes_on free_among clashed
  column_finds zero y later l = sym (nothing_past y later (omega arith))
  column_finds (suc n) y later l = go (leb (y + h) W) (first_clash y piece there) refl refl (λ z. column_finds n z later)
    where
      go : (fits : Bool) (x : Option Clash) → leb (y + h) W ≡ fits → first_clash y piece there ≡ x →
          ((z : ℕ) → end - z ≤ n →
          free_among t c piece there (heights_from W h piece there n z) later ≡ or_else (first_from here z (end - z)) later) →
          free_among t c piece there (cond fits (y ∷ goes_on x (heights_from W h piece there n)) []) later ≡
          or_else (first_from here y (end - y)) later
      go false x f e next = sym (nothing_past y later (omega (arith, leb-false (y + h) W f)))
      go true None f e next =
          let free : freeb y piece there ≡ true = free_test y piece there ∙ ap (λ (x : Option Clash). not (clashed x)) e in
          let more : end - y ≡ suc (end - suc y) = omega (arith, leb-true (y + h) W f) in
          ap (λ (b : Bool). cond b (Some (position t c y)) later) free ∙
          sym
          (ap (λ (x : Option Position). or_else x later)
          (ap (first_from here y) more ∙
          from_here here y (end - suc y) (Some (position t c y)) (ap (λ (b : Bool). cond b (Some (position t c y)) None) free)))
      go true (Some m) f e next =
          let z = next_height m in
          let up = clash_rises y piece there e in
          let same : first_from here y (end - y) ≡ first_from here z (end - z) =
          skip here end (z - y) y z (omega arith)
          (λ u a b. ap (λ (d : Bool). cond d (Some (position t c u)) None) (between_taken y u a piece there m e b)) in
          ap (λ (b : Bool). cond b (Some (position t c y)) (free_among t c piece there (heights_from W h piece there n z) later))
          (clash_taken y piece there e) ∙
          next z (omega arith) ∙
          ap (λ (x : Option Position). or_else x later) (sym same)

  column_least : (later : Option Position) →
      free_among t c piece there (heights_in W h piece there) later ≡ or_else (first_from here 0 end) later
  unfolding heights_in
  column_least later =
      let all : end - 0 ≡ end = omega arith in
      column_finds end 0 later (omega arith) ∙ ap (λ (k : ℕ). or_else (first_from here 0 k) later) all

  -- where one of the heights is free, what comes later does not count
  free_first : (ys : List ℕ) (k l : Option Position) → any (λ y. freeb y piece there) ys ≡ true →
      free_among t c piece there ys k ≡ free_among t c piece there ys l
  unfolding any free_among
  free_first [] k l e = absurd (false≢true e)
  free_first (y ∷ ys) k l e = go (freeb y piece there) e (free_first ys k l)
    where
      go : (b : Bool) → (b || any (λ y. freeb y piece there) ys) ≡ true →
          (any (λ y. freeb y piece there) ys ≡ true → free_among t c piece there ys k ≡ free_among t c piece there ys l) →
          cond b (Some (position t c y)) (free_among t c piece there ys k) ≡ cond b (Some (position t c y)) (free_among t c piece there ys l)
      go true e next = refl
      go false e next = next e

-- From column to column.
module _ (W h t : ℕ) (piece strip : List (List Rows)) where
  -- the least free height of column c
  abbrev least : ℕ → Option Position
  least c = first_from (here W h t c piece (drop_n c strip)) 0 (end W h t c piece (drop_n c strip))

  columns_find : (c n : ℕ) → end_from t piece strip c (columns_from W h piece strip c n) ≡ first_from least c n
  unfolding columns_from end_from first_from
  columns_find c zero = refl
  columns_find c (suc n) =
      ends (any (λ y. freeb y piece there) ys) refl ∙
      column_least W h t c piece there _ ∙
      ap (λ (x : Option Position). or_else W h t c piece there (least c) x) (columns_find (suc c) n)
    where
      there : List (List Rows)
      there = drop_n c strip

      ys : List ℕ
      ys = heights_in W h piece there

      later : List (List ℕ)
      later = columns_from W h piece strip (suc c) n

      ends : (b : Bool) → any (λ y. freeb y piece there) ys ≡ b →
          free_among t c piece there ys (end_from t piece strip (suc c) (cond b [] later)) ≡
          free_among t c piece there ys (end_from t piece strip (suc c) later)
      ends true e = free_first W h t c piece there ys _ _ e
      ends false e = refl

pub walk_finds : (W R N g : ℕ) (strip : List (List Rows)) (o : List ℕ) (t : ℕ) → walk_end W R N g strip o t ≡ first_free W R N g strip o t
unfolding walk_end turn_walk first_free
walk_finds W R N g strip o t =
    columns_find W (extent_y o t) t (piece_runs o t R g) strip 0 ((N + 1) - columns_for (extent_x o t) R)

-- How many heights a column has.

module _ (W h : ℕ) (piece : List (List Rows)) where
  heights_most : (there : List (List Rows)) (n y : ℕ) → length (heights_from W h piece there n y) ≤ n
  unfolding heights_from goes_on
  heights_most there zero y = omega arith
  heights_most there (suc n) y = go (leb (y + h) W) (first_clash y piece there) (heights_most there n)
    where
      go : (fits : Bool) (x : Option Clash) → ((z : ℕ) → length (heights_from W h piece there n z) ≤ n) →
          length (cond fits (y ∷ goes_on x (heights_from W h piece there n)) []) ≤ suc n
      go false x few = omega arith
      go true None few = omega arith
      go true (Some m) few = omega (arith, few (next_height m))

  column_few : (strip : List (List Rows)) (c n k : ℕ) → length (get_or (columns_from W h piece strip c n) k []) ≤ (W + 1) - h
  unfolding columns_from heights_in
  column_few strip c zero k = omega arith
  column_few strip c (suc n) zero = heights_most (drop_n c strip) ((W + 1) - h) 0
  column_few strip c (suc n) (suc k) =
      go (any (λ y. freeb y piece (drop_n c strip)) (heights_in W h piece (drop_n c strip))) (column_few strip (suc c) n k)
    where
      go : (b : Bool) → length (get_or (columns_from W h piece strip (suc c) n) k []) ≤ (W + 1) - h →
          length (get_or (cond b [] (columns_from W h piece strip (suc c) n)) k []) ≤ (W + 1) - h
      go true l = omega arith
      go false l = l

  past : (there : List (List Rows)) (n y : ℕ) → (W + 1) - h ≤ y → heights_from W h piece there n y ≡ []
  unfolding heights_from
  past there zero y l = refl
  past there (suc n) y l = rw (lt-leb (y + h) W (omega arith)) refl

  -- more steps than heights that fit make no difference
  enough : (there : List (List Rows)) (n m y : ℕ) → (W + 1) - h ≤ y + n → (W + 1) - h ≤ y + m →
      heights_from W h piece there n y ≡ heights_from W h piece there m y
  unfolding heights_from goes_on
  enough there zero zero y l k = refl
  enough there zero (suc m) y l k = sym (past there (suc m) y (omega arith))
  enough there (suc n) zero y l k = past there (suc n) y (omega arith)
  enough there (suc n) (suc m) y l k =
      go (first_clash y piece there) refl (enough there n m)
    where
      go : (x : Option Clash) → first_clash y piece there ≡ x →
          ((z : ℕ) → (W + 1) - h ≤ z + n → (W + 1) - h ≤ z + m → heights_from W h piece there n z ≡ heights_from W h piece there m z) →
          cond (leb (y + h) W) (y ∷ goes_on x (heights_from W h piece there n)) [] ≡
          cond (leb (y + h) W) (y ∷ goes_on x (heights_from W h piece there m)) []
      go None e next = refl
      go (Some x) e next =
          let up = clash_rises y piece there e in
          ap (λ (ys : List ℕ). cond (leb (y + h) W) (y ∷ ys) []) (next (next_height x) (omega arith) (omega arith))

pub few_in_column : (W R N g : ℕ) (strip : List (List Rows)) (o : List ℕ) (t c : ℕ) →
    length (get_or (turn_walk W R N g strip o t) c []) ≤ (W + 1) - extent_y o t
unfolding turn_walk
few_in_column W R N g strip o t c =
    column_few W (extent_y o t) (piece_runs o t R g) strip 0 ((N + 1) - columns_for (extent_x o t) R) c

pub steps_enough : (W h : ℕ) (piece there : List (List Rows)) (n : ℕ) → (W + 1) - h ≤ n →
    heights_from W h piece there n 0 ≡ heights_in W h piece there
unfolding heights_in
steps_enough W h piece there n l = enough W h piece there n ((W + 1) - h) 0 (omega arith) (omega arith)
