-- "at most the (turn, column) pairs in which a height was tried, times (1 + p × q)": a pair of a piece's run and an occupied run is ahead
-- of a height while the occupied run ends above the piece's run. A clash at some height leaves its own pair behind at the next height,
-- and no pair comes back, so after the first try of a column each uses up one of at most p × q pairs.
-- Assumes nothing.
use mathlib.Core.Path.{◌≡◌, refl, ap, subst}
use mathlib.Core.Bool.{Bool, true, false, cond}
use mathlib.Core.List.{List, [], ◌∷◌}
use Prim.Native.Nat.{ℕ, zero, suc, ◌+◌, ◌*◌, ◌-◌, ◌≤◌, ◌<◌, max}
use native.Mathlib.Omega.{arith}
use native.Mathlib.Nat.{mul-le-mul_left, mul-le-mul_right}
use lib.Dec.{ltb, leb}
use lib.ListN.{length}
use borrow.Author.Tests.{ltb-true, lt-ltb, le-ltb}
use Rattle.std.specs.Prelude.{Option, Some, None}
use Rattle.std.proofs.lemmas.Option.{same_Some, none-some}
use Rattle.defs.specs.Meaning.Turn.{extent_x, extent_y}
use Rattle.defs.specs.Meaning.Placing.{columns_for}
use Rattle.defs.specs.Computing.Test.{any}
use Rattle.defs.specs.Computing.Cells.{Rows, piece_runs, count_runs, allowedb, most_runs}
use Rattle.defs.specs.Computing.Search.{meets, freeb, drop_n}
use Rattle.defs.specs.Computing.Walk.{Clash, lowest_met, clash_or, clash_in, first_of, first_clash, next_height, goes_on, heights_from, heights_in, columns_from, turn_walk, tries_in, some_height, columns_tried, tries_below, pairs_below, tries_bound}
use Rattle.laws.proofs.Tests.{and_left}

-- one where the test passes
abbrev one : Bool → ℕ
one b = cond b 1 0

one_less : (a b : Bool) → (a ≡ true → b ≡ true) → one a ≤ one b
one_less false b f = omega arith
one_less true b f = rw (f refl) (omega arith)

one_most : (b : Bool) → one b ≤ 1
one_most true = omega arith
one_most false = omega arith

-- the occupied run b ends above the piece's run r at height y
abbrev ends : ℕ → Rows → Rows → Bool
ends y r b = ltb (r.low + y) b.high

ends_fewer : (y z : ℕ) (r b : Rows) → y ≤ z → one (ends z r b) ≤ one (ends y r b)
ends_fewer y z r b l =
    one_less (ends z r b) (ends y r b) (λ e. lt-ltb (r.low + y) b.high (omega (arith, ltb-true (r.low + z) b.high e)))

-- the pairs ahead of a height: of one run of the piece, of one column, of all
unfoldable ahead_of : ℕ → Rows → List Rows → ℕ
ahead_of y r [] = 0
ahead_of y r (b ∷ bs) = one (ends y r b) + ahead_of y r bs

unfoldable ahead_in : ℕ → List Rows → List Rows → ℕ
ahead_in y [] b = 0
ahead_in y (r ∷ rs) b = ahead_of y r b + ahead_in y rs b

unfoldable ahead : ℕ → List (List Rows) → List (List Rows) → ℕ
ahead y [] strip = 0
ahead y (c ∷ cs) [] = 0
ahead y (c ∷ cs) (b ∷ bs) = ahead_in y c b + ahead y cs bs

-- no pair comes back
module _ (y z : ℕ) (l : y ≤ z) where
  run_fewer : (r : Rows) (bs : List Rows) → ahead_of z r bs ≤ ahead_of y r bs
  unfolding ahead_of
  run_fewer r [] = omega arith
  run_fewer r (b ∷ bs) = omega (arith, ends_fewer y z r b l, run_fewer r bs)

  column_fewer : (c b : List Rows) → ahead_in z c b ≤ ahead_in y c b
  unfolding ahead_in
  column_fewer [] b = omega arith
  column_fewer (r ∷ rs) b = omega (arith, run_fewer r b, column_fewer rs b)

  fewer : (piece strip : List (List Rows)) → ahead z piece strip ≤ ahead y piece strip
  unfolding ahead
  fewer [] strip = omega arith
  fewer (c ∷ cs) [] = omega arith
  fewer (c ∷ cs) (b ∷ bs) = omega (arith, column_fewer c b, fewer cs bs)

-- a clash goes up, and leaves its pair behind
run_clash : (y : ℕ) (r : Rows) (bs : List Rows) (b : Rows) → lowest_met y r bs ≡ Some b →
    (r.low + y < b.high) × (ahead_of (b.high - r.low) r bs < ahead_of y r bs)
unfolding lowest_met ahead_of meets
run_clash y r [] b e = absurd (none-some b e)
run_clash y r (x ∷ bs) b e = go (meets y r x) refl e (run_clash y r bs b)
  where
    here : (ends y r x ≡ true) → x ≡ b → (r.low + y < b.high) ×
        (one (ends (b.high - r.low) r x) + ahead_of (b.high - r.low) r bs < one (ends y r x) + ahead_of y r bs)
    here t q =
        let up : r.low + y < b.high = omega (arith, ltb-true (r.low + y) x.high t, ap (λ (w : Rows). w.high) q) in
        let past : ends (b.high - r.low) r x ≡ false =
        le-ltb (r.low + (b.high - r.low)) x.high (omega (arith, ap (λ (w : Rows). w.high) q)) in
        (up, rw (t, past) (omega (arith, run_fewer y (b.high - r.low) (omega arith) r bs)))

    go : (m : Bool) → meets y r x ≡ m → cond m (Some x) (lowest_met y r bs) ≡ Some b →
        (lowest_met y r bs ≡ Some b → (r.low + y < b.high) × (ahead_of (b.high - r.low) r bs < ahead_of y r bs)) →
        (r.low + y < b.high) × (one (ends (b.high - r.low) r x) + ahead_of (b.high - r.low) r bs < one (ends y r x) + ahead_of y r bs)
    go true t q later = here (and_left (ends y r x) _ t) (same_Some _ _ q)
    go false t q later =
        let u = later q in
        (u.0, omega (arith, u.1, ends_fewer y (b.high - r.low) r x (omega (arith, u.0))))

abbrev Up : ℕ → Clash → Type 0
Up y m = m.own.low + y < m.met.high

column_clash : (y : ℕ) (c b : List Rows) (m : Clash) → clash_in y c b ≡ Some m → Up y m × (ahead_in (next_height m) c b < ahead_in y c b)
unfolding clash_in clash_or ahead_in
column_clash y [] b m e = absurd (none-some m e)
column_clash y (r ∷ rs) b m e = go (lowest_met y r b) refl e (column_clash y rs b m)
  where
    Goal : Clash → Type 0
    Goal m = Up y m × (ahead_of (next_height m) r b + ahead_in (next_height m) rs b < ahead_of y r b + ahead_in y rs b)

    go : (x : Option Rows) → lowest_met y r b ≡ x → clash_or r x (clash_in y rs b) ≡ Some m →
        (clash_in y rs b ≡ Some m → Up y m × (ahead_in (next_height m) rs b < ahead_in y rs b)) → Goal m
    go None t q later =
        let u = later q in
        (u.0, omega (arith, u.1, run_fewer y (next_height m) (omega (arith, u.0)) r b))
    go (Some x) t q later =
        let u = run_clash y r b x t in
        subst Goal (same_Some _ _ q)
        (u.0, omega (arith, u.1, column_fewer y (x.high - r.low) (omega (arith, u.0)) rs b))

clash : (y : ℕ) (piece strip : List (List Rows)) (m : Clash) → first_clash y piece strip ≡ Some m →
    Up y m × (ahead (next_height m) piece strip < ahead y piece strip)
unfolding first_clash first_of ahead
clash y [] strip m e = absurd (none-some m e)
clash y (c ∷ cs) [] m e = absurd (none-some m e)
clash y (c ∷ cs) (b ∷ bs) m e = go (clash_in y c b) refl e (clash y cs bs m)
  where
    Goal : Clash → Type 0
    Goal m = Up y m × (ahead_in (next_height m) c b + ahead (next_height m) cs bs < ahead_in y c b + ahead y cs bs)

    go : (x : Option Clash) → clash_in y c b ≡ x → first_of x (first_clash y cs bs) ≡ Some m →
        (first_clash y cs bs ≡ Some m → Up y m × (ahead (next_height m) cs bs < ahead y cs bs)) → Goal m
    go None t q later =
        let u = later q in
        (u.0, omega (arith, u.1, column_fewer y (next_height m) (omega (arith, u.0)) c b))
    go (Some x) t q later =
        let u = column_clash y c b x t in
        subst Goal (same_Some _ _ q)
        (u.0, omega (arith, u.1, fewer y (next_height x) (omega (arith, u.0)) cs bs))

pub clash_rises : (y : ℕ) (piece strip : List (List Rows)) {m : Clash} → first_clash y piece strip ≡ Some m → y < next_height m
clash_rises y piece strip {m} e = omega (arith, (clash y piece strip m e).0)

-- a run of the piece has at most one pair with each run of its column, so there are at most p × q pairs
run_most : (y : ℕ) (r : Rows) (bs : List Rows) → ahead_of y r bs ≤ length bs
unfolding ahead_of
run_most y r [] = omega arith
run_most y r (b ∷ bs) = omega (arith, one_most (ends y r b), run_most y r bs)

column_most : (y : ℕ) (c b : List Rows) → ahead_in y c b ≤ length c * length b
unfolding ahead_in
column_most y [] b = omega arith
column_most y (r ∷ rs) b = omega (arith, run_most y r b, column_most y rs b)

most : (y : ℕ) (piece strip : List (List Rows)) → ahead y piece strip ≤ count_runs piece * count_runs strip
unfolding ahead count_runs
most y [] strip = omega arith
most y (c ∷ cs) [] = omega arith
most y (c ∷ cs) (b ∷ bs) = omega (arith, column_most y c b, most y cs bs)

drop_few : (n : ℕ) (strip : List (List Rows)) → count_runs (drop_n n strip) ≤ count_runs strip
unfolding drop_n count_runs
drop_few zero strip = omega arith
drop_few (suc n) [] = omega arith
drop_few (suc n) (b ∷ bs) = omega (arith, drop_few n bs)

-- one column
module _ (W h : ℕ) (piece there : List (List Rows)) where
  heights_few : (n y : ℕ) → length (heights_from W h piece there n y) ≤ 1 + ahead y piece there
  unfolding heights_from goes_on
  heights_few zero y = omega arith
  heights_few (suc n) y = go (leb (y + h) W) (first_clash y piece there) refl (heights_few n)
    where
      go : (fits : Bool) (x : Option Clash) → first_clash y piece there ≡ x →
          ((z : ℕ) → length (heights_from W h piece there n z) ≤ 1 + ahead z piece there) →
          length (cond fits (y ∷ goes_on x (heights_from W h piece there n)) []) ≤ 1 + ahead y piece there
      go false x e few = omega arith
      go true None e few = omega arith
      go true (Some m) e few = omega (arith, few (next_height m), (clash y piece there m e).1)

-- one turn
module _ (W h p q : ℕ) (piece strip : List (List Rows)) (few : count_runs piece ≤ p) (held : count_runs strip ≤ q) where
  column_bound : (c : ℕ) → length (heights_in W h piece (drop_n c strip)) ≤ 1 + p * q
  unfolding heights_in
  column_bound c =
      let there = drop_n c strip in
      let held' : count_runs there ≤ q = omega (arith, drop_few c strip) in
      omega (
        arith,
        heights_few W h piece there (W + 1 - h) 0,
        most 0 piece there,
        mul-le-mul_right (count_runs there) few,
        mul-le-mul_left p held',
      )

  tried : (ys : List ℕ) → length ys ≤ 1 + p * q → length ys ≤ some_height ys * (1 + p * q)
  unfolding some_height
  tried [] l = omega arith
  tried (y ∷ ys) l = omega arith

  turn_bound : (c n : ℕ) → tries_in (columns_from W h piece strip c n) ≤ columns_tried (columns_from W h piece strip c n) * (1 + p * q)
  unfolding columns_from tries_in columns_tried
  turn_bound c zero = omega arith
  turn_bound c (suc n) =
      go (any (λ y. freeb y piece (drop_n c strip)) (heights_in W h piece (drop_n c strip))) (columns_from W h piece strip (suc c) n)
      (turn_bound (suc c) n)
    where
      ys : List ℕ
      ys = heights_in W h piece (drop_n c strip)

      go : (free : Bool) (later : List (List ℕ)) → tries_in later ≤ columns_tried later * (1 + p * q) →
          length ys + tries_in (cond free [] later) ≤ (some_height ys + columns_tried (cond free [] later)) * (1 + p * q)
      go true later l = omega (arith, tried ys (column_bound c))
      go false later l = omega (arith, tried ys (column_bound c))

-- all allowed turns
module _ (W R N g : ℕ) (strip : List (List Rows)) (o : List ℕ) (mask p : ℕ) where
  turns_bound : (n : ℕ) → most_runs o mask R g n ≤ p →
      tries_below W R N g strip o mask n ≤ pairs_below W R N g strip o mask n * (1 + p * count_runs strip)
  unfolding tries_below pairs_below most_runs turn_walk
  turns_bound zero l = omega arith
  turns_bound (suc t) l = go (allowedb mask t) refl (turns_bound t)
    where
      walk : List (List ℕ)
      walk = columns_from W (extent_y o t) (piece_runs o t R g) strip 0 ((N + 1) - columns_for (extent_x o t) R)

      go : (a : Bool) → allowedb mask t ≡ a →
          (most_runs o mask R g t ≤ p → tries_below W R N g strip o mask t ≤ pairs_below W R N g strip o mask t * (1 + p * count_runs strip)) →
          tries_below W R N g strip o mask t + cond a (tries_in walk) 0 ≤
          (pairs_below W R N g strip o mask t + cond a (columns_tried walk) 0) * (1 + p * count_runs strip)
      go true e before =
          let most : max (most_runs o mask R g t) (count_runs (piece_runs o t R g)) ≤ p = rw e at l in
          omega (
            arith,
            before (omega arith),
            turn_bound W (extent_y o t) p (count_runs strip) (piece_runs o t R g) strip (omega arith) (omega arith) 0
                ((N + 1) - columns_for (extent_x o t) R),
          )
      go false e before = let most : max (most_runs o mask R g t) 0 ≤ p = rw e at l in omega (arith, before (omega arith))

-- "They are at most the (turn, column) pairs in which a height was tried, times (1 + p × q)"
pub tries_bound_lem : (W R N g : ℕ) (strip : List (List Rows)) (o : List ℕ) (mask : ℕ) →
    tries_below W R N g strip o mask 4 ≤ tries_bound W R N g strip o mask
unfolding tries_bound
tries_bound_lem W R N g strip o mask = turns_bound W R N g strip o mask (most_runs o mask R g 4) 4 (omega arith)
