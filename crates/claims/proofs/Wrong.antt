-- Demand 3 refuses the lists of calls that wrong programs make.
-- Assumes nothing.
use mathlib.Core.Path.{◌≡◌, refl, sym, ap, subst}
use mathlib.Core.Logic.{⊎_elim, ◌≢◌}
use mathlib.Core.Bool.{true, false}
use mathlib.Core.List.{List, []}
use Prim.Native.Nat.{ℕ, zero, suc, ◌+◌, ◌*◌, ◌<◌}
use native.Mathlib.Omega.{arith}
use lib.ListN.{length, get_or, replicate}
use Rattle.std.specs.Prelude.{Result, Ok, Err}
use Rattle.defs.specs.declared.Refusal.{Refusal}
use Rattle.defs.specs.declared.Position.{Position}
use Rattle.defs.specs.Meaning.Outline.{Inside, passes_through, edge_at}
use Rattle.defs.specs.Meaning.Cell.{Cells}
use Rattle.defs.specs.Meaning.Placing.{moved, cells_at, OnStrip, Free, Fits, Best, Later}
use Rattle.defs.specs.Meaning.Question.{Asked7to12, Question5, Question13, Question14}
use Rattle.defs.specs.Computing.Calls.{refusal}
use Rattle.defs.specs.Computing.Cells.{Rows, in_rows}
use Rattle.defs.specs.Computing.Runs.{runs}
use Rattle.laws.proofs.Granted.{no_grant}
use Rattle.geom.proofs.Checks.{checks}
use Rattle.geom.proofs.Stretches.{Valid, no_rows}
use Rattle.tables.proofs.Tables.{In, Table}
use Rattle.tables.proofs.Sets.{Same}
use Rattle.claims.specs.Trace.{Call, Calls, ask_call, commit_call, Puts, Lies, Occupied}
use Rattle.claims.specs.Demand3.{Demand3}
use Rattle.claims.specs.Places.{PlaceCalls, PlacedCells, PlaceDemand3}
use Rattle.claims.proofs.OutlineNumbers.{best_is, fourteen}
use Rattle.claims.specs.Wrong.{square, at_height, calls, stacked, box, box_turned, ask_for, commit_at, repeated, WrongLists}

by_four : (P : ℕ → Type 0) → P 0 → P 1 → P 2 → P 3 → (i : ℕ) → i < 4 → P i
by_four P a b c d zero h = a
by_four P a b c d (suc zero) h = b
by_four P a b c d (suc (suc zero)) h = c
by_four P a b c d (suc (suc (suc zero))) h = d
by_four P a b c d (suc (suc (suc (suc i)))) h = absurd (omega arith)

-- a point of the square's highest row, and one of the lowest row of the square raised by 4, half a unit above it
inside_0 : Inside (moved 2 square (at_height 0)) 2 15 4
unfolding runs
inside_0 =
    record {
      point = omega arith;
      between = omega arith;
      odd = refl;
      clear =
          by_four (λ i. passes_through 2 15 4 (edge_at (moved 2 square (at_height 0)) i) ≡ false) refl refl refl refl;
    }

inside_4 : Inside (moved 2 square (at_height 4)) 2 17 4
unfolding runs
inside_4 =
    record {
      point = omega arith;
      between = omega arith;
      odd = refl;
      clear =
          by_four (λ i. passes_through 2 17 4 (edge_at (moved 2 square (at_height 4)) i) ≡ false) refl refl refl refl;
    }

-- the cells of these points, with no gap
counts : (y j q : ℕ) → Inside (moved 2 square (at_height y)) 2 q 4 → j * 4 < q → q < (j + 1) * 4 → j < 10 →
    cells_at 10 2 10 0 square (at_height y) 0 j
counts y j q inside low high h =
    record {
      cell =
          record {
            k = 0;
            from = omega arith;
            to = omega arith;
            there =
                record {
                  column = 0;
                  row = j;
                  holds = record { p = 2; q = q; d = 4; inside = inside; left = omega arith; right = omega arith; low = low; high = high };
                  left = omega arith;
                  columns = omega arith;
                  below = omega arith;
                  rows = omega arith;
                };
          };
      column = omega arith;
      row = h;
    }

cell_0 : cells_at 10 2 10 0 square (at_height 0) 0 3
cell_0 = counts 0 3 15 inside_0 (omega arith) (omega arith) (omega arith)

cell_4 : cells_at 10 2 10 0 square (at_height 4) 0 4
cell_4 = counts 4 4 17 inside_4 (omega arith) (omega arith) (omega arith)

on_strip_0 : OnStrip 10 2 10 square (at_height 0)
unfolding runs
on_strip_0 = record { columns = omega arith; rows = omega arith }

box_on_strip : OnStrip 10 4 10 box (at_height 0)
unfolding runs
box_on_strip = record { columns = omega arith; rows = omega arith }

-- nothing is occupied before the first call
fits_0 : (x : PlaceCalls) → Fits 10 2 10 0 (PlacedCells 10 2 10 0 x.call 0) square 1 (at_height 0)
unfolding Free
fits_0 x =
    record {
      allowed = record { turn = omega arith; bit = refl };
      on_strip = on_strip_0;
      free = λ i j c o. omega (arith, o.is_earlier);
    }

-- the square is asked 7 to 12 and gets no "no", and with six records 14 neither
asked : Asked7to12 square 1 2 0 6
unfolding runs
asked = (checks square 1 2 0 6 (omega arith)).0 (record { none_no = refl; room = refl })

empty : List (List Rows)
empty = replicate 10 []

columns_empty : (n i : ℕ) → ◌≡◌ {A = List Rows} (get_or (replicate n []) i []) []
columns_empty zero i = refl
columns_empty (suc n) zero = refl
columns_empty (suc n) (suc i) = columns_empty n i

none_in : (i j : ℕ) → ¬ In empty i j
unfolding empty
none_in i j a = no_rows j (subst (λ (rs : List Rows). in_rows rs j ≡ true) (columns_empty 10 i) a)

table : Table 10 10 empty
unfolding empty Valid
table = record { long = refl; below = λ i j a. absurd (none_in i j a); valid = λ i. subst Valid (sym (columns_empty 10 i)) tt }

module _ (C : Cells) (none : (i j : ℕ) → ¬ C i j) where
  none_held : Same (In empty) C
  none_held i j = (λ a. absurd (none_in i j a), λ c. absurd (none i j c))

  room : (p : Position) → Best 10 2 10 0 C square 1 p → Question14 10 2 10 0 6 C square p
  unfolding runs empty
  room = (fourteen 10 2 10 0 6 empty C none_held table (omega arith) square 1 6 asked.q7 asked.q10 (at_height 0) refl).0 refl

  room_0 : Question14 10 2 10 0 6 C square (at_height 0)
  unfolding runs empty
  room_0 =
      room (at_height 0) (best_is 10 2 10 0 6 empty C none_held table (omega arith) square 1 6 asked.q7 asked.q10 (at_height 0) refl)

not_later : ¬ Later 2 square (at_height 1) (at_height 0)
unfolding Later runs
not_later h = ⊎_elim (λ a. omega arith) (⊎_elim (λ a. omega (arith, a.1)) (λ a. omega (arith, a.2))) h

not_before : ¬ Later 4 box (record { turn = 1; column = 0; height = 0 }) (at_height 0)
unfolding Later runs
not_before h = ⊎_elim (λ a. omega arith) (⊎_elim (λ a. omega (arith, a.0)) (λ a. omega (arith, a.0))) h

module _ (lent : List ℕ) (tries : ℕ → ℕ) (strip : ℕ → List ℕ) where
  searched : ¬ PlaceDemand3 10 2 10 0 (calls lent 1 (λ _. Err (refusal 13 1)) tries strip)
  unfolding Question13
  searched d = ((d.no_position 0 (omega arith)).0 refl).1 (at_height 0, fits_0 (calls lent 1 (λ _. Err (refusal 13 1)) tries strip))

  entered : strip 1 ≡ strip 0 → ¬ PlaceDemand3 10 2 10 0 (calls lent 1 (λ _. Ok (at_height 0)) tries strip)
  entered e d =
      let held =
      ((d.strip_is 1 (omega arith)).holds 0 3).1
      (record { earlier = 0; is_earlier = omega arith; position = at_height 0; places = refl; covered = cell_0 }) in
      let o = ((d.strip_is 0 (omega arith)).holds 0 3).0 (rw (← e) held) in
      omega (arith, o.is_earlier)

  not_faked : strip 2 ≡ strip 1 → ¬ PlaceDemand3 10 2 10 0 (calls lent 2 stacked tries strip)
  unfolding Free
  not_faked e d =
      let held =
      ((d.strip_is 2 (omega arith)).holds 0 4).1
      (record { earlier = 1; is_earlier = omega arith; position = at_height 4; places = refl; covered = cell_4 }) in
      d.free 1 (at_height 4) (omega arith) refl 0 4 cell_4 (((d.strip_is 1 (omega arith)).holds 0 4).0 (rw (← e) held))

  not_always_0 : ¬ PlaceDemand3 10 2 10 0 (calls lent 2 (λ _. Ok (at_height 0)) tries strip)
  not_always_0 d = d.no_point_in_two 0 1 (at_height 0) (at_height 0) 2 15 4 (omega arith) (omega arith) refl refl inside_0 inside_0

  nearer : ¬ PlaceDemand3 10 2 10 1 (calls lent 2 stacked tries strip)
  nearer d =
      ⊎_elim (⊎_elim (λ a. omega arith) (λ a. omega arith)) (⊎_elim (λ a. omega arith) (λ a. omega arith))
      (d.points_apart 0 1 (at_height 0) (at_height 4) 2 15 4 2 17 4 (omega arith) (omega arith) refl refl inside_0 inside_4)

  best_only : ¬ PlaceDemand3 10 2 10 0 (calls lent 1 (λ _. Ok (at_height 1)) tries strip)
  best_only d =
      not_later
      ((d.best 0 (at_height 1) (omega arith) refl).first (at_height 0) (fits_0 (calls lent 1 (λ _. Ok (at_height 1)) tries strip))
      (λ e. omega (arith, ap (λ (p : Position). p.height) e)))

  lesser_edge : ¬ PlaceDemand3 10 4 10 0 (record { lent = lent; count = 1; call = λ m. box_turned (tries m); strip = strip })
  unfolding Free
  lesser_edge d =
      not_before
      ((d.best 0 (record { turn = 1; column = 0; height = 0 }) (omega arith) refl).first (at_height 0)
      (record {
        allowed = record { turn = omega arith; bit = refl };
        on_strip = box_on_strip;
        free = λ i j c o. omega (arith, o.is_earlier);
      })
      (λ e. omega (arith, ap (λ (p : Position). p.turn) e)))

  not_refused : (n k : ℕ) → length lent ≡ 39 → ¬ PlaceDemand3 10 2 10 0 (calls lent 1 (λ _. Err (refusal n k)) tries strip)
  unfolding Question5 Question13
  not_refused n k long d =
      let x = calls lent 1 (λ _. Err (refusal n k)) tries strip in
      let e : d.Q ≡ 6 = omega (arith, long, d.opened_with.words_are) in
      no_grant {r = refusal n k}
      (d.places_it 0 (omega arith)
      (record { q5 = (d.Q, (d.strip_is 0 (omega arith)).well_formed); q7to12 = asked })
      (at_height 0, fits_0 x)
      (λ p b.
      subst (λ (q : ℕ). Question14 10 2 10 0 q (PlacedCells 10 2 10 0 x.call 0) square p) (sym e)
      (room (PlacedCells 10 2 10 0 x.call 0) (λ i j o. omega (arith, o.is_earlier)) p b))).1

-- lists with ask and commit: nothing is occupied before the first call
none_before : (call : ℕ → Call) (i j : ℕ) → ¬ Occupied 10 2 10 0 call 0 i j
none_before call i j o = omega (arith, o.lies.earlier)

fits_first : (call : ℕ → Call) → Fits 10 2 10 0 (Occupied 10 2 10 0 call 0) square 1 (at_height 0)
unfolding Free
fits_first call =
    record {
      allowed = record { turn = omega arith; bit = refl };
      on_strip = on_strip_0;
      free = λ i j c o. none_before call i j o;
    }

six : (x : Calls) → length x.lent ≡ 39 → (d : Demand3 10 2 10 0 x) → d.Q ≡ 6
six x long d = omega (arith, long, d.opened_with.words_are)

module _ (lent : List ℕ) (tries : ℕ) (strip : ℕ → List ℕ) where
  asked_searched : ¬ Demand3 10 2 10 0 (repeated lent 1 (ask_call (ask_for (Err (refusal 13 1)) tries)) strip)
  unfolding Question13
  asked_searched d =
      ((d.ask_no_position 0 (ask_for (Err (refusal 13 1)) tries) (omega arith, refl)).0 refl).1
      (at_height 0, fits_first (λ _. ask_call (ask_for (Err (refusal 13 1)) tries)))

  asked_best : ¬ Demand3 10 2 10 0 (repeated lent 1 (ask_call (ask_for (Ok (at_height 1)) tries)) strip)
  asked_best d =
      not_later
      ((d.best_ask 0 (ask_for (Ok (at_height 1)) tries) (at_height 1) (omega arith, refl) refl).first (at_height 0)
      (fits_first (λ _. ask_call (ask_for (Ok (at_height 1)) tries)))
      (λ e. omega (arith, ap (λ (p : Position). p.height) e)))

  asked_kept : (a : Result Position Refusal) → strip 1 ≢ strip 0 → ¬ Demand3 10 2 10 0 (repeated lent 1 (ask_call (ask_for a tries)) strip)
  asked_kept a n d = n (d.ask_keeps 0 (ask_for a tries) (omega arith, refl))

  asked_refused : (n k : ℕ) → length lent ≡ 39 →
      ¬ Demand3 10 2 10 0 (repeated lent 1 (ask_call (ask_for (Err (refusal n k)) tries)) strip)
  unfolding Question5 Question13
  asked_refused n k long d =
      let c = ask_for (Err (refusal n k)) tries in
      let call : ℕ → Call = λ _. ask_call c in
      no_grant {r = refusal n k}
      (d.finds_it 0 c (omega arith, refl) (record { q5 = (d.Q, (d.strip_is 0 (omega arith)).well_formed); q7to12 = asked })
      (at_height 0, fits_first call)
      (λ p b.
      subst (λ (q : ℕ). Question14 10 2 10 0 q (Occupied 10 2 10 0 call 0) square p) (sym (six _ long d))
      (room (Occupied 10 2 10 0 call 0) (none_before call) p b))).1

module _ (lent : List ℕ) (strip : ℕ → List ℕ) where
  -- each of these commits has put the square there
  lies : (m l : ℕ) → l < m → Lies (λ _. commit_call (commit_at 0 (Ok tt))) m l square (at_height 0)
  unfolding Puts
  lies m l h = record { earlier = h; puts = (refl, refl, refl) }

  commit_entered : strip 1 ≡ strip 0 → ¬ Demand3 10 2 10 0 (repeated lent 1 (commit_call (commit_at 0 (Ok tt))) strip)
  commit_entered e d =
      let held =
      ((d.strip_is 1 (omega arith)).holds 0 3).1
      (record { call = 0; outline = square; position = at_height 0; lies = lies 1 0 (omega arith); covered = cell_0 }) in
      none_before (λ _. commit_call (commit_at 0 (Ok tt))) 0 3 (((d.strip_is 0 (omega arith)).holds 0 3).0 (rw (← e) held))

  commit_apart : ¬ Demand3 10 2 10 0 (repeated lent 2 (commit_call (commit_at 0 (Ok tt))) strip)
  commit_apart d =
      d.no_point_in_two 2 0 1 square square (at_height 0) (at_height 0) 2 15 4 (omega arith) (omega arith) (lies 2 0 (omega arith))
      (lies 2 1 (omega arith)) inside_0 inside_0

  commit_looked : ¬ Demand3 10 2 10 0 (repeated lent 1 (commit_call (commit_at 0 (Err (refusal 18 0)))) strip)
  unfolding Free
  commit_looked d =
      ((d.commit_18 0 (commit_at 0 (Err (refusal 18 0))) (omega arith, refl)).0 refl).1
      (record {
        on_strip = on_strip_0;
        free = λ i j c o. none_before (λ _. commit_call (commit_at 0 (Err (refusal 18 0)))) i j o;
      })

  commit_not_refused : (n k : ℕ) → length lent ≡ 39 →
      ¬ Demand3 10 2 10 0 (repeated lent 1 (commit_call (commit_at 0 (Err (refusal n k)))) strip)
  unfolding Question5 Free
  commit_not_refused n k long d =
      let c = commit_at 0 (Err (refusal n k)) in
      let call : ℕ → Call = λ _. commit_call c in
      no_grant {r = refusal n k}
      (d.commits_it 0 c (omega arith, refl) (record { q5 = (d.Q, (d.strip_is 0 (omega arith)).well_formed); q7to12 = asked })
      (record { on_strip = on_strip_0; free = λ i j c o. none_before call i j o })
      (subst (λ (q : ℕ). Question14 10 2 10 0 q (Occupied 10 2 10 0 call 0) square (at_height 0)) (sym (six _ long d))
      (room_0 (Occupied 10 2 10 0 call 0) (none_before call))))

pub wrong_lists : WrongLists
wrong_lists =
    record {
      said_before_searching = searched;
      nothing_entered = entered;
      rest_faked = not_faked;
      height_0_always = not_always_0;
      nearer_than_the_gap = nearer;
      not_the_best = best_only;
      least_last_column = lesser_edge;
      all_refused = not_refused;
      asked_before_searching = asked_searched;
      asks_refused = asked_refused;
      asked_not_the_best = asked_best;
      ask_enters = asked_kept;
      commit_not_entered = commit_entered;
      commit_on_a_piece = commit_apart;
      commit_before_looking = commit_looked;
      commits_refused = commit_not_refused;
    }
