-- The table after placing holds what it held and the cells of the moved piece.
-- Assumes nothing.
use mathlib.Core.Path.{◌≡◌, refl, ap, sym, subst, ◌∙◌}
use mathlib.Core.Bool.{Bool, true, ◌&&◌, ◌||◌}
use mathlib.Core.List.{List, [], ◌∷◌}
use mathlib.Core.Logic.Iff
use mathlib.Core.Logic.{◌⊎◌, inl, inr, ⊎_map, ◌↔◌}
use Prim.Native.Nat.{ℕ, zero, suc, ◌+◌, ◌-◌, ◌≤◌, ◌<◌}
use native.Mathlib.Omega.{arith}
use native.Mathlib.Decide.{dec_lt}
use native.Mathlib.Nat.{add-zero}
use lib.Dec.{leb}
use lib.ListN.{length, get_or}
use Rattle.defs.specs.declared.Position.{Position}
use Rattle.defs.specs.Meaning.Outline.{sides, KeepsOrder}
use Rattle.defs.specs.Meaning.Turn.{turned}
use Rattle.defs.specs.Meaning.Cell.{CoveredGap}
use Rattle.defs.specs.Meaning.Placing.{moved, cells_at}
use Rattle.defs.specs.Computing.Cells.{Rows, in_rows, stretches, piece_runs}
use Rattle.defs.specs.Computing.Search.{entered_column, entered_from, entered}
use Rattle.geom.proofs.Stretches.{stretches_are, no_rows}
use Rattle.laws.proofs.Tests.{Decides, leb_decides, and_decides, or_decides, decides_by}
use Rattle.tables.proofs.Columns.{entered_past}
use Rattle.tables.proofs.Tables.{In, in_table, Table}
use Rattle.tables.proofs.Moved.{moved_cells}

entered_at_from : (W : ℕ) (piece : List (List Rows)) (p : Position) (k : ℕ) (held : List (List Rows)) (i : ℕ) → i < length held →
    get_or (entered_from W piece p k held) i [] ≡ entered_column W piece p (get_or held i []) (k + i)
unfolding entered_from
entered_at_from W piece p k [] i h = absurd (omega arith)
entered_at_from W piece p k (b ∷ bs) zero h = ap (λ (a : ℕ). entered_column W piece p b a) (sym (add-zero k))
entered_at_from W piece p k (b ∷ bs) (suc i) h =
    entered_at_from W piece p (suc k) bs i (omega arith) ∙
    ap (λ (a : ℕ). entered_column W piece p (get_or bs i []) a) (omega arith)

pub entered_at : (W : ℕ) (piece : List (List Rows)) (p : Position) (held : List (List Rows)) (i : ℕ) → i < length held →
    get_or (entered_from W piece p 0 held) i [] ≡ entered_column W piece p (get_or held i []) i
entered_at W piece p held i h =
    entered_at_from W piece p 0 held i h ∙ ap (λ (a : ℕ). entered_column W piece p (get_or held i []) a) (omega arith)

pub entered_length : (W : ℕ) (piece : List (List Rows)) (p : Position) (k : ℕ) (held : List (List Rows)) →
    length (entered_from W piece p k held) ≡ length held
unfolding entered_from
entered_length W piece p k [] = refl
entered_length W piece p k (b ∷ bs) = ap suc (entered_length W piece p (suc k) bs)

-- Rows from W on and columns from N on do not count, and are not entered.
module _ (W R N g : ℕ) (held : List (List Rows)) (o : List ℕ) (p : Position)
    (keeps : KeepsOrder (turned o p.turn)) (some : 0 < sides o) (Rpos : 1 ≤ R) (table : Table W N held) where
  abbrev own : ℕ → List Rows
  own i = get_or (piece_runs o p.turn R g) (i - p.column) []

  row_test : ℕ → ℕ → Bool
  row_test i j = in_rows (get_or held i []) j || (leb p.column i && (leb p.height j && in_rows (own i) (j - p.height)))

  column_is : (i : ℕ) → i < length held → get_or (entered W R g held o p) i [] ≡ stretches (row_test i) W []
  unfolding entered entered_column row_test
  column_is i l = entered_at W (piece_runs o p.turn R g) p held i l

  -- the piece's cells, whether they count or not
  abbrev moved_cell : ℕ → ℕ → Type 0
  moved_cell i j = CoveredGap (moved R o p) R g i j

  row_decides : (i j : ℕ) → Decides (row_test i j) (In held i j ⊎ moved_cell i j)
  unfolding row_test
  row_decides i j =
      let m = moved_cells R g o p keeps some Rpos i j in
      or_decides Iff.rfl
      (decides_by (λ h. m.1 (h.0, h.1.0, h.1.1)) (λ c. let k = m.0 c in (k.0, (k.1, k.2)))
      (and_decides (leb_decides _ _) (and_decides (leb_decides _ _) Iff.rfl)))

  pub entered_cells : (i j : ℕ) → In (entered W R g held o p) i j ↔ (In held i j ⊎ cells_at W R N g o p i j)
  entered_cells i j = (λ e. forth e (dec_lt i (length held)), λ c. back c)
    where
      forth : In (entered W R g held o p) i j → Dec (i < length held) → In held i j ⊎ cells_at W R N g o p i j
      forth e (yes l) =
          let s = (stretches_are (row_test i) W j).0 (subst (λ (rs : List Rows). in_rows rs j ≡ true) (column_is i l) e) in
          ⊎_map (λ t. t) (λ c. record { cell = c; column = omega (arith, table.long); row = s.0 }) ((row_decides i j).0 s.1)
      forth e (no l) = absurd (no_rows j (subst (λ (rs : List Rows). in_rows rs j ≡ true) (entered_past W R g held o p i (omega arith)) e))

      here : i < length held → j < W → In held i j ⊎ moved_cell i j → In (entered W R g held o p) i j
      here l k c =
          subst (λ (rs : List Rows). in_rows rs j ≡ true) (sym (column_is i l))
          ((stretches_are (row_test i) W j).1 (k, (row_decides i j).1 c))

      back : In held i j ⊎ cells_at W R N g o p i j → In (entered W R g held o p) i j
      back (inl e) = here (in_table held i j e) (table.below i j e) (inl e)
      back (inr c) = here (omega (arith, table.long, c.column)) c.row (inr c.cell)
