-- The steps of the walk are those of the definition: over a table laid flat and a piece's runs in words, the first run that clashes lands
-- where the first clash sends the piece, so the tries counted are the heights of the definition's walk.
-- Assumes nothing.
use mathlib.Core.Path.{◌≡◌, refl, sym, ap, subst, ◌∙◌}
use mathlib.Core.Bool.{Bool, false, cond}
use mathlib.Core.List.{List, []}
use Prim.Native.Nat.{ℕ, zero, suc, ◌+◌, ◌-◌, ◌≤◌, ◌<◌, max}
use native.Mathlib.Omega.{arith}
use native.Mathlib.Numerals.{add-one}
use lib.Dec.{ltb}
use lib.ListN.{length, get_or}
use borrow.Author.Tests.{ltb-true, lt-ltb, le-leb, lt-leb}
use Rattle.std.specs.Prelude.{Some, None}
use Rattle.defs.specs.Meaning.Turn.{extent_x, extent_y}
use Rattle.defs.specs.Meaning.Placing.{columns_for}
use Rattle.defs.specs.Computing.Test.{any}
use Rattle.defs.specs.Computing.Cells.{Rows, piece_runs}
use Rattle.defs.specs.Computing.Search.{meets, freeb, drop_n}
use Rattle.defs.specs.Computing.Walk.{lowest_met, goes_on, next_height, heights_from, heights_in, columns_from, turn_walk, tries_in}
use Rattle.geom.proofs.RunWords.{RunAt}
use Rattle.laws.proofs.Tests.{and_left, and_right, and_both, refuted}
use Rattle.tables.specs.Flat.{row_at, rows_from, rows_in, table_of, Occupied, Laid}
use Rattle.tables.specs.Piece.{run_column, run_low, run_high, Stands}
use Rattle.tables.proofs.Flats.{column_flat}
use Rattle.tables.proofs.FreeTest.{drop_n_at}
use Rattle.looks.proofs.Clashes.{met_none, met_first, FirstMet, first_met, free_none, clash_taken}
use Rattle.tries.specs.Tries.{Lands}
use Rattle.walk.specs.Free.{FreeTo}
use Rattle.walk.specs.Steps.{Steps, past, free, jump, TurnSteps, off, found, next}
use Rattle.walk.proofs.Searches.{frame_of, free_is}

module _ {f l h r : List ℕ} {W N n p : ℕ} (o : List ℕ) (t R g : ℕ) (small : g ≤ 400) (laid : Laid f l h W N n) (stands : Stands (piece_runs o t R g) r p) where
  abbrev wide : ℕ
  wide = columns_for (extent_x o t) R

  abbrev tall : ℕ
  tall = extent_y o t

  abbrev piece : List (List Rows)
  piece = piece_runs o t R g

  -- the columns of the strip from column c on
  abbrev there : ℕ → List (List Rows)
  there c = drop_n c (table_of f l h N)

  there_column : (c i : ℕ) → c + i < N → get_or (there c) i [] ≡ rows_in f l h (c + i)
  there_column c i u = drop_n_at c (table_of f l h N) i ∙ column_flat f l h u

  -- a run that holds no occupied cell meets no run
  apart : {m i : ℕ} {rows : Rows} (c y q : ℕ) → c + i < N → m < p → RunAt r m i rows →
      ((j : ℕ) → run_low r m ≤ j → j < run_high r m → ¬ Occupied f l h (c + run_column r m) (y + j)) →
      get_or f (c + i) 0 ≤ q → q < get_or f (c + i + 1) 0 → meets y rows (row_at l h q) ≡ false
  unfolding meets
  apart {m} {i} {rows} c y q fits few run clear from to = refuted (meets y rows (row_at l h q)) λ e.
      let over : rows.low + y < get_or h q 0 = ltb-true _ _ (and_left (ltb (rows.low + y) (get_or h q 0)) _ e) in
      let under : get_or l q 0 < rows.high + y = ltb-true _ _ (and_right (ltb (rows.low + y) (get_or h q 0)) _ e) in
      let full = (laid.runs (c + i) fits).full q from to in
      let some-rows = (frame_of o t R g small laid stands).some m few in
      let j = max rows.low (get_or l q 0 - y) in
      clear j (omega (arith, run.low)) (omega (arith, run.low, run.high))
      (subst (λ (a : ℕ). Occupied f l h (c + a) (y + j)) (sym run.column)
      (record { which = q; from = from; among = to; low = omega arith; high = omega (arith, run.low, run.high) }))

  clear_run : {m i : ℕ} {rows : Rows} (c y : ℕ) → c + i < N → m < p → RunAt r m i rows →
      ((j : ℕ) → run_low r m ≤ j → j < run_high r m → ¬ Occupied f l h (c + run_column r m) (y + j)) →
      lowest_met y rows (get_or (there c) i []) ≡ None
  unfolding rows_from
  clear_run {m} {i} {rows} c y fits few run clear =
      ap (lowest_met y rows) (there_column c i fits) ∙
      met_none y rows (row_at l h) (get_or f (c + i) 0) _ (λ q u v. apart c y q fits few run clear u (omega (arith, laid.flat.rise (c + i) fits)))

  met_run : {k i : ℕ} {rows : Rows} {z : ℕ} (c y : ℕ) → c + i < N → RunAt r k i rows →
      (m : Lands f l h (c + run_column r k) (run_low r k) (run_high r k) y z) →
      lowest_met y rows (get_or (there c) i []) ≡ Some (row_at l h m.which)
  unfolding rows_from meets
  met_run {k} {i} {rows} c y fits run m =
      let low = subst (λ (a : ℕ). get_or f (c + a) 0 ≤ m.which) run.column m.lowest.from in
      let high = subst (λ (a : ℕ). m.which < get_or f (c + a + 1) 0) run.column m.lowest.to in
      ap (lowest_met y rows) (there_column c i fits) ∙
      met_first y rows (row_at l h) (get_or f (c + i) 0) _ m.which low (omega (arith, laid.flat.rise (c + i) fits))
      (λ q u v.
      let below = m.lowest.below q v (subst (λ (a : ℕ). get_or f (c + a) 0 ≤ q) (sym run.column) u) in
      refuted (meets y rows (row_at l h q)) λ e.
      let over : rows.low + y < get_or h q 0 = ltb-true _ _ (and_left (ltb (rows.low + y) (get_or h q 0)) _ e) in
      omega (arith, run.low))
      (and_both (lt-ltb (rows.low + y) (get_or h m.which 0) (omega (arith, m.lowest.over, run.low)))
      (lt-ltb (get_or l m.which 0) (rows.high + y) (omega (arith, m.lowest.under, run.high))))

  -- the first run that clashes
  clash_is : {k z : ℕ} (c y : ℕ) → k < p → c + run_column r k < N → FreeTo f l h r N c y k →
      (m : Lands f l h (c + run_column r k) (run_low r k) (run_high r k) y z) →
      FirstMet y piece (there c) (run_low r k) (row_at l h m.which)
  clash_is {k} c y few here clear m =
      first_met stands y (there c) k (row_at l h m.which) few
      (λ a i rows u run.
      let left : c + run_column r a < N = omega (arith, (frame_of o t R g small laid stands).columns.order a k u few) in
      clear_run c y (omega (arith, run.column)) (omega arith) run (clear.clear a u left))
      (λ i rows run. met_run c y (omega (arith, run.column)) run m)

  -- the heights of the definition, where so many are left that they do not run out
  abbrev heights : ℕ → ℕ → ℕ → List ℕ
  heights c a y = heights_from W tall piece (there c) a y

  abbrev is_free : ℕ → ℕ → Bool
  is_free c y = freeb y piece (there c)

  pub column_steps : (c : ℕ) → {y k : ℕ} {b : Bool} → c + wide ≤ N → Steps f l h r N W p tall c y k b → (a : ℕ) → W < a + tall + y →
      (length (heights c a y) ≡ k) × (any (is_free c) (heights c a y) ≡ b)
  unfolding heights_from goes_on any
  column_steps c fits (past y far) zero u = (refl, refl)
  column_steps c fits (past y far) (suc a) u = rw (lt-leb (y + tall) W far) (refl, refl)
  column_steps c fits (free y low clear) zero u = absurd (omega arith)
  column_steps c fits (free y low clear) (suc a) u =
      let e = (free_is o t R g small laid stands c y fits).0 clear in
      rw (le-leb (y + tall) W low, free_none y piece (there c) e, e) (refl, refl)
  column_steps c fits (jump y z k m b low few here clear lands later) zero u = absurd (omega arith)
  column_steps c fits (jump y z k m b low few here clear lands later) (suc a) u =
      let met = clash_is c y few here clear lands in
      let e : next_height (record { own = met.own; met = row_at l h lands.which }) ≡ z = omega (arith, met.low_is, lands.on) in
      let taken = clash_taken y piece (there c) met.is in
      let rest = column_steps c fits later a (omega (arith, lands.on, lands.lowest.over)) in
      rw (le-leb (y + tall) W low, met.is, e, taken) (ap suc rest.0, rest.1)

  -- the columns of the definition from column c on
  abbrev columns : ℕ → ℕ → List (List ℕ)
  columns c a = columns_from W tall piece (table_of f l h N) c a

  -- a column's heights, and what follows them
  abbrev joined : ℕ → Bool → List (List ℕ) → ℕ
  joined c b later = length (heights_in W tall piece (there c)) + tries_in (cond b [] later)

  in_column : {k : ℕ} {b : Bool} (c : ℕ) → c + wide ≤ N → Steps f l h r N W p tall c 0 k b →
      (length (heights_in W tall piece (there c)) ≡ k) × (any (is_free c) (heights_in W tall piece (there c)) ≡ b)
  unfolding heights_in
  in_column c fits x = column_steps c fits x (W + 1 - tall) (omega arith)

  turn_steps : {c k : ℕ} → TurnSteps f l h r N W p wide tall c k → (a : ℕ) → a ≡ N + 1 - wide - c → tries_in (columns c a) ≡ k
  unfolding columns_from tries_in
  turn_steps (off c far) zero e = refl
  turn_steps (off c far) (suc a) e = absurd (omega arith)
  turn_steps (found c k fits x) zero e = absurd (omega arith)
  turn_steps (found c k fits x) (suc a) e =
      let s = in_column c fits x in
      ap (λ (b : Bool). joined c b (columns (suc c) a)) s.1 ∙ omega (arith, s.0)
  turn_steps (next c k m fits x later) zero e = absurd (omega arith)
  turn_steps (next c k m fits x later) (suc a) e =
      let s = in_column c fits x in
      let rest : tries_in (columns (suc c) a) ≡ m =
      subst (λ (d : ℕ). tries_in (columns d a) ≡ m) (add-one c) (turn_steps later a (omega arith)) in
      ap (λ (b : Bool). joined c b (columns (suc c) a)) s.1 ∙ omega (arith, s.0, rest)

  -- the tries of a turn are those of its walk
  pub tries_are : {k : ℕ} → TurnSteps f l h r N W p wide tall 0 k → k ≡ tries_in (turn_walk W R N g (table_of f l h N) o t)
  unfolding turn_walk
  tries_are x = sym (turn_steps x (N + 1 - wide) (omega arith))
