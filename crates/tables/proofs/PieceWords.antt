-- The runs of a piece in words: row j of column i is in one of them exactly when the piece's column i holds it, and they stand by column.
-- Assumes nothing.
use mathlib.Core.Path.{◌≡◌, sym, ap, subst, ◌∙◌}
use mathlib.Core.Logic.Iff
use mathlib.Core.Logic.{◌↔◌, ⊎_elim}
use mathlib.Core.Bool.{true}
use mathlib.Core.List.{List, [], ◌++◌}
use Prim.Native.Nat.{ℕ, ◌+◌, ◌-◌, ◌*◌, ◌≤◌, ◌<◌}
use native.Mathlib.Omega.{arith}
use lib.ListN.{length, get_or, drop, take-append-drop}
use Rattle.defs.specs.Meaning.Outline.{sides, KeepsOrder}
use Rattle.defs.specs.Meaning.Turn.{turned, extent_x, extent_y}
use Rattle.defs.specs.Meaning.Cell.{CoveredGap}
use Rattle.defs.specs.Meaning.Placing.{columns_for}
use Rattle.defs.specs.Computing.Cells.{Rows, in_rows, piece_runs, count_runs}
use Rattle.defs.specs.Computing.Calls.{runs_words}
use Rattle.geom.proofs.Strip.{lt_or_le}
use Rattle.geom.proofs.Stretches.{among_of, of_among}
use Rattle.geom.proofs.RunLists.{Apart, place, place_holds, among_at, stretch_is_run}
use Rattle.geom.proofs.Counting.{number_of, number_below, spot, spot_number, none}
use Rattle.geom.proofs.RunWords.{RunAt, run_words_lem, spot_words, later_column}
use Rattle.geom.proofs.PieceCells.{piece_cells, runs_apart, rows_below, piece_columns, run_foot}
use Rattle.tables.specs.Piece.{run_low, Stands, RunHolds, PieceRuns}
use Rattle.tables.proofs.Tables.{In, in_table}

module _ {piece : List (List Rows)} {r : List ℕ} {p : ℕ} (stands : Stands piece r p) (apart : (i : ℕ) → Apart (get_or piece i [])) where
  abbrev rest : List ℕ
  rest = drop (3 * p) r

  -- the buffer has the piece's words, then the rest
  written : (P : List ℕ → Type 0) → P (runs_words 0 piece ++ rest) → P r
  written P = subst P (ap (λ (ws : List ℕ). ws ++ rest) (sym stands.words) ∙ take-append-drop (3 * p) r)

  counted : {m : ℕ} → m < p → m < count_runs piece
  counted l = omega (arith, stands.count)

  -- run m is stretch `index m` of column `column m`
  abbrev column : ℕ → ℕ
  column m = (spot piece m).0

  abbrev index : ℕ → ℕ
  index m = (spot piece m).1

  abbrev stretch : ℕ → Rows
  stretch m = get_or (get_or piece (column m) []) (index m) none

  index_below : {m : ℕ} → m < p → index m < length (get_or piece (column m) [])
  index_below l = (spot_number piece _ (counted l)).0

  run_at : {m : ℕ} → m < p → RunAt r m (column m) (stretch m)
  run_at {m} l = written (λ ws. RunAt ws m (column m) (stretch m)) (spot_words piece rest m (counted l))

  stretch_rows : {m : ℕ} → m < p → (j : ℕ) → (stretch m).low ≤ j → j < (stretch m).high → In piece (column m) j
  stretch_rows {m} l j x y = of_among _ j (among_at none (get_or piece (column m) []) (index m) j (index_below l) x y)

  pub piece_rows : (i j : ℕ) → (in_rows (get_or piece i []) j ≡ true) ↔ RunHolds r 0 p i j
  piece_rows i j = (
    λ e.
        let k = place (get_or piece i []) j in
        let h = place_holds none 0 (get_or piece i []) j (apart i) (among_of (get_or piece i []) j e) in
        let w = written (λ ws. RunAt ws (number_of piece i k) i (get_or (get_or piece i []) k none)) (run_words_lem piece rest i k h.0) in
        record {
          which = number_of piece i k;
          from = omega arith;
          to = omega (arith, number_below piece i k h.0, stands.count);
          column = w.column;
          low = omega (arith, w.low, h.1);
          high = omega (arith, w.high, h.2);
        },
    λ t.
        let w = run_at t.to in
        subst (λ (c : ℕ). In piece c j) (sym w.column ∙ t.column)
        (stretch_rows t.to j (omega (arith, w.low, t.low)) (omega (arith, w.high, t.high))),
  )

  stretch_some : {m : ℕ} → m < p → (stretch m).low < (stretch m).high
  stretch_some {m} l =
      (stretch_is_run none (In piece) (column m) (get_or piece (column m) []) (apart _) (λ j. Iff.rfl) (index m) (index_below l)).some

  -- a greater number is not in a lesser column
  in_order : {k m : ℕ} → k < m → m < p → column k ≤ column m
  in_order {k} {m} u l =
      ⊎_elim
      (λ back.
      absurd
      (omega (
        arith,
        later_column piece (column m) (index m) (column k) (index k) back (index_below l),
        spot_number piece k (counted (omega arith)),
        spot_number piece m (counted l),
      )))
      (λ h. h) (lt_or_le (column m) (column k))

  pub runs_of : {w t : ℕ} → length piece ≤ w → ((i j : ℕ) → In piece i j → j < t) → PieceRuns r p w t
  runs_of wide tall =
      record {
        long = stands.long;
        wide =
            λ k l.
            omega (arith, (run_at l).column, in_table piece (column k) _ (stretch_rows l _ (omega arith) (stretch_some l)));
        some = λ k l. omega (arith, (run_at l).low, (run_at l).high, stretch_some l);
        tall =
            λ k l.
            omega (
              arith,
              (run_at l).high,
              stretch_some l,
              tall (column k) ((stretch k).high - 1) (stretch_rows l _ (omega (arith, stretch_some l)) (omega (arith, stretch_some l))),
            );
        order = λ k m u l. omega (arith, (run_at {m = k} (omega arith)).column, (run_at l).column, in_order u l);
      }

pub piece_runs_lem : (o : List ℕ) (t R g : ℕ) (r : List ℕ) (p : ℕ) → Stands (piece_runs o t R g) r p →
    PieceRuns r p (columns_for (extent_x o t + g) R) (extent_y o t + g)
piece_runs_lem o t R g r p stands =
    runs_of stands (runs_apart o t R g) (omega (arith, piece_columns o t R g)) (rows_below o t R g)

-- each run begins below the top of the extent
pub piece_feet : (o : List ℕ) (t R g : ℕ) → KeepsOrder (turned o t) → 0 < sides o → 1 ≤ R → {r : List ℕ} {p : ℕ} →
    Stands (piece_runs o t R g) r p → (k : ℕ) → k < p → run_low r k < extent_y o t
piece_feet o t R g keeps some Rpos stands k l =
    let run =
    stretch_is_run none (CoveredGap (turned o t) R g) (column stands (runs_apart o t R g) k)
    (get_or (piece_runs o t R g) (column stands (runs_apart o t R g) k) []) (runs_apart o t R g _)
    (λ j. Iff.symm (piece_cells o t R g keeps some Rpos _ j)) (index stands (runs_apart o t R g) k) (index_below stands (runs_apart o t R g) l) in
    omega (arith, (run_at stands (runs_apart o t R g) l).low, run_foot o t R g keeps some Rpos run)
