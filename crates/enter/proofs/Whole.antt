-- The new table is the definition's: each of its columns is apart and has the rows of the definition's column, and rows say the list.
-- Assumes nothing.
use mathlib.Core.Path.{◌≡◌, sym, ap, ◌∙◌}
use mathlib.Core.Bool.{Bool, ◌&&◌, ◌||◌}
use mathlib.Core.List.{List, [], ◌∷◌}
use mathlib.Core.Logic.Iff
use mathlib.Core.Logic.{◌⊎◌, ⊎_elim}
use Prim.Native.Nat.{ℕ, zero, suc, ◌+◌, ◌-◌, ◌≤◌, ◌<◌}
use native.Mathlib.Omega.{arith}
use lib.Dec.{leb}
use lib.ListN.{length, get_or}
use lib.Seq.{ext_get_or}
use Rattle.defs.specs.Computing.Cells.{Rows, in_rows, count_runs}
use Rattle.defs.specs.Computing.Search.{position, entered_column}
use Rattle.laws.proofs.Tests.{Decides, leb_decides, and_decides, or_decides, decides_by}
use Rattle.laws.proofs.Lists.{length-list_from}
use Rattle.geom.proofs.Strip.{lt_or_le}
use Rattle.geom.proofs.RunLists.{Apart, stretches_only}
use Rattle.tables.specs.Flat.{rows_from, table_of, Occupied, Laid}
use Rattle.tables.specs.Piece.{Stands, RunHolds}
use Rattle.tables.proofs.Flats.{in_flat, apart_flat, column_flat, table_flat}
use Rattle.tables.proofs.PieceWords.{piece_rows}
use Rattle.tables.proofs.Entered.{entered_at, entered_length}
use Rattle.columnentry.specs.declared.Entry.{Entry}
use Rattle.columnentry.specs.declared.Built.{Built}
use Rattle.columnentry.specs.Columns.{Old, Fits, Split, OfRuns}
use Rattle.enter.specs.Enters.{after, Entered, TooMany}
use Rattle.enter.proofs.Building.{Building}

-- places that rise by the lengths of a table's first columns rise by no more than its runs
counted_up : (table : List (List Rows)) (f : ℕ → ℕ) (k : ℕ) → ((i : ℕ) → i < k → f (suc i) ≡ length (get_or table i []) + f i) →
    f k ≤ count_runs table + f 0
unfolding count_runs
counted_up table f zero h = omega arith
counted_up [] f (suc k) h = omega (arith, h 0 (omega arith), counted_up [] (λ i. f (suc i)) k (λ i u. h (suc i) (omega arith)))
counted_up (c ∷ cs) f (suc k) h =
    omega (arith, h 0 (omega arith), counted_up cs (λ i. f (suc i)) k (λ i u. h (suc i) (omega arith)))

length_rows : (l h : List ℕ) (i n : ℕ) → length (rows_from l h i n) ≡ n
unfolding rows_from
length_rows l h i n = length-list_from _ i n

-- The piece's runs in column i are a to e - 1: a row of theirs is a row of the piece's column.
module _ {r : List ℕ} {g : Entry} {i a e : ℕ} (from : Split r g i a) (to : Split r g (i + 1) e) (x : ℕ) where
  of_runs : x < g.width → (g.column ≤ i) × ((g.height ≤ x) × RunHolds r 0 g.runs (i - g.column) (x - g.height)) → OfRuns r g.width g.height a e x
  of_runs below h =
      let t = h.1.1 in
      record {
        which = t.which;
        from = ⊎_elim (λ l. absurd (omega (arith, from.before t.which l, t.column))) (λ l. l) (lt_or_le t.which a);
        to =
            ⊎_elim (λ l. l) (λ l. absurd (omega (arith, to.others t.which l t.to, t.column))) (lt_or_le t.which e);
        low = omega (arith, t.low);
        high = omega (arith, t.high);
        top = below;
      }

  runs_of : OfRuns r g.width g.height a e x → (g.column ≤ i) × ((g.height ≤ x) × RunHolds r 0 g.runs (i - g.column) (x - g.height))
  runs_of o =
      let within : o.which < g.runs = omega (arith, o.to, to.among) in
      let low = from.others o.which o.from within in
      let high = to.before o.which o.to in (
        omega arith,
        (
          omega (arith, o.low),
          record {
            which = o.which;
            from = omega arith;
            to = within;
            column = omega arith;
            low = omega (arith, o.low);
            high = omega (arith, o.high);
          },
        ),
      )

module _ {f l h r f' l' h' : List ℕ} {g : Entry} {k : ℕ} {b : Built} (old : Old f l h g) (fits : Fits r g)
    (built : Building f l h r f' l' h' g k b) (most : k ≤ g.columns) where
  -- a row of a column is below the table's width
  row_below : {i : ℕ} → i < k → {a e : ℕ} → Split r g (i + 1) e → (x : ℕ) → Occupied f l h i x ⊎ OfRuns r g.width g.height a e x →
      x < g.width
  row_below {i} u to x =
      ⊎_elim (λ o. old.laid.within i x (omega arith) o)
      (λ o. o.top)

  laid_so_far : Laid f' l' h' g.width k b.runs
  laid_so_far =
      record {
        flat = built.flat;
        runs = λ i u. (built.columns i u).runs;
        within = λ i x u o. let c = built.columns i u in row_below u c.to x (c.only x o);
      }

  module _ (piece : List (List Rows)) (stands : Stands piece r g.runs) (apart : (i : ℕ) → Apart (get_or piece i [])) (turn : ℕ) where
    -- the definition's test of row x in column i
    test : ℕ → ℕ → Bool
    test i x =
        in_rows (get_or (table_of f l h g.columns) i []) x ||
        (leb g.column i && (leb g.height x && in_rows (get_or piece (i - g.column) []) (x - g.height)))

    test_decides : {i : ℕ} → i < k → {a e : ℕ} → Split r g i a → Split r g (i + 1) e → (x : ℕ) → x < g.width →
        Decides (test i x) (Occupied f l h i x ⊎ OfRuns r g.width g.height a e x)
    unfolding test
    test_decides {i} u from to x below =
        or_decides (Iff.symm (in_flat old.laid.flat (omega arith) x))
        (decides_by (of_runs from to x below) (runs_of from to x)
        (and_decides (leb_decides _ _) (and_decides (leb_decides _ _) (piece_rows stands apart (i - g.column) (x - g.height)))))

    column_entered : (i : ℕ) → i < k → get_or (table_of f' l' h' k) i [] ≡ get_or (after f l h g piece turn) i []
    unfolding test entered_column
    column_entered i u =
        let c = built.columns i u in
        let rows = in_flat built.flat u in
        let decides = test_decides u c.from c.to in
        stretches_only (test i) g.width (get_or (table_of f' l' h' k) i []) (apart_flat built.flat u c.runs)
        (λ x. (
          λ e. let o = c.only x ((rows x).1 e) in let below = row_below u c.to x o in (below, (decides x below).1 o),
          λ e. (rows x).0 (⊎_elim (c.held x) (c.added x) ((decides x e.0).0 e.1)),
        )) ∙
        sym
        (entered_at g.width piece (position turn g.column g.height) (table_of f l h g.columns) i
        (omega (arith, (table_flat old.laid).long)))

    -- the first k columns have as many runs as the places say
    so_far : b.runs ≤ count_runs (after f l h g piece turn)
    so_far =
        omega (
          arith,
          built.flat.start,
          built.flat.last,
          counted_up (after f l h g piece turn) (λ i. get_or f' i 0) k
              (λ i u.
              let e : suc i ≡ i + 1 = omega arith in
              omega (
                arith,
                built.flat.rise i u,
                ap (λ (x : ℕ). get_or f' x 0) e,
                ap length (sym (column_entered i u) ∙ column_flat f' l' h' u),
                length_rows l' h' (get_or f' i 0) (get_or f' (i + 1) 0 - get_or f' i 0),
              )),
        )

pub too_many : {f l h r f' l' h' : List ℕ} {g : Entry} {k : ℕ} {b : Built} → Old f l h g → Fits r g →
    Building f l h r f' l' h' g k b → k ≤ g.columns → g.most < b.runs → TooMany f l h r g
too_many old fits built most full =
    record { more = λ piece stands apart turn. omega (arith, so_far old fits built most piece stands apart turn) }

pub all_entered : {f l h r f' l' h' : List ℕ} {g : Entry} {b : Built} → Old f l h g → Fits r g →
    Building f l h r f' l' h' g g.columns b → b.runs ≤ g.most → Entered f l h r f' l' h' g b.runs
all_entered {f} {l} {h} {g = g} old fits built few =
    let laid = laid_so_far old fits built (omega arith) in
    let long = (table_flat laid).long in
    record {
      laid = laid;
      few = few;
      table =
          λ piece stands apart turn.
          ext_get_or [] _ (after f l h g piece turn)
          (long ∙ sym (table_flat old.laid).long ∙ sym (entered_length g.width piece _ 0 (table_of f l h g.columns)))
          (λ i u. column_entered old fits built (omega arith) piece stands apart turn i (omega arith));
    }
