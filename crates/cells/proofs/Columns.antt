-- The runs of all columns, counted and stored column by column: what is left to count and to store gives the whole, and at the end
-- nothing is left.
-- Assumes nothing.
use mathlib.Core.Path.{◌≡◌, refl, ap, sym, ◌∙◌}
use mathlib.Core.List.{List}
use Prim.Native.Nat.{ℕ, suc, ◌+◌, ◌-◌, ◌*◌, ◌≤◌, ◌<◌}
use native.Mathlib.Omega.{arith}
use native.Mathlib.Numerals.{add-one}
use native.Mathlib.Nat.{mul-le-mul_left}
use lib.ListN.{length}
use lib.Seq.{sets}
use Rattle.laws.proofs.Stores.{sets_append}
use Rattle.laws.proofs.Lists.{length-list_from}
use Rattle.defs.specs.Meaning.Outline.{sides, KeepsOrder}
use Rattle.defs.specs.Meaning.Turn.{turned, extent_x}
use Rattle.defs.specs.Meaning.Placing.{columns_for}
use Rattle.defs.specs.Computing.Test.{list_from}
use Rattle.defs.specs.Computing.Cells.{Rows, piece_runs, count_runs}
use Rattle.defs.specs.Computing.Calls.{rows_words, runs_words}
use Rattle.geom.proofs.Extent.{rounded_up, rounded_end}
use Rattle.outline.specs.Vertex.{Lent}
use Rattle.entries.specs.Edges.{NextAt}
use Rattle.section.specs.Slabs.{Kept}
use Rattle.column.specs.Rows.{Working}
use Rattle.gapcolumn.specs.Gap.{GapColumnOf}
use Rattle.cells.specs.Put.{PutRuns}
use Rattle.cells.specs.Columns.{pair_at, pairs, PutColumn, column_runs}
use Rattle.cells.proofs.Pairs.{column_runs_lem}
use Rattle.geom.proofs.RunWords.{rows_length}

pub piece_runs_lem : (o : List ℕ) (t R g : ℕ) → piece_runs o t R g ≡ list_from (column_runs o t R g) 0 (columns_for (extent_x o t + g) R)
unfolding piece_runs column_runs
piece_runs_lem o t R g = refl

-- The columns before i are done, with k runs in all, where g gives the runs of each column. Column i begins at `from`; where that is w
-- or more there is none.
pub record Putting (g : ℕ → List Rows) (w R : ℕ) (out₀ out : List ℕ) (i from k : ℕ) : Type 0 where
  pub place : from ≡ i * R
  pub few : k ≤ 8000 * i
  pub long : length out ≡ length out₀
  pub count : k + count_runs (list_from g i (columns_for w R - i)) ≡ count_runs (list_from g 0 (columns_for w R))
  pub rest : 3 * count_runs (list_from g 0 (columns_for w R)) ≤ length out₀ →
      sets out (3 * k) (runs_words i (list_from g i (columns_for w R - i))) ≡
      sets out₀ 0 (runs_words 0 (list_from g 0 (columns_for w R)))

pub putting_start : (g : ℕ → List Rows) (w R : ℕ) (out : List ℕ) → Putting g w R out out 0 0 0
putting_start g w R out =
    let e : columns_for w R - 0 ≡ columns_for w R = omega arith in
    record { place = omega arith; few = omega arith; long = refl; count = rw e (omega arith); rest = λ f. rw e }

module _ {g : ℕ → List Rows} {w R : ℕ} {out₀ out : List ℕ} {i from k : ℕ} (p : Putting g w R out₀ out i from k) where
  pub column_number : 1 ≤ R → i ≤ from
  column_number r = omega (arith, p.place, mul-le-mul_left i r)

  pub putting_next : {out' : List ℕ} {k' : ℕ} {rs : List Rows} → 1 ≤ R → from < w → length rs ≤ 8000 →
      rs ≡ g i → PutColumn i rs out out' k k' → Putting g w R out₀ out' (i + 1) (from + R) k'
  unfolding count_runs runs_words list_from
  putting_next {out'} {k'} {rs} r l f same s =
      go (columns_for w R - (i + 1)) (omega (arith, rounded_up w R i r (omega (arith, p.place)))) refl
    where
      go : (left : ℕ) → columns_for w R - i ≡ suc left → columns_for w R - (i + 1) ≡ left →
          Putting g w R out₀ out' (i + 1) (from + R) k'
      go left d c =
          record {
            place = omega (arith, p.place);
            few = omega (arith, s.count, p.few);
            long = s.long ∙ p.long;
            count = rw c all;
            rest = λ h. rw c (stored h);
          }
        where
          all : k' + count_runs (list_from g (i + 1) left) ≡ count_runs (list_from g 0 (columns_for w R))
          all =
              let z : k + (length (g i) + count_runs (list_from g (suc i) left)) ≡ count_runs (list_from g 0 (columns_for w R)) =
              ap (λ (m : ℕ). k + count_runs (list_from g i m)) (sym d) ∙ p.count in
              rw (add-one i) (omega (arith, s.count, ap length same, z))

          stored : 3 * count_runs (list_from g 0 (columns_for w R)) ≤ length out₀ →
              sets out' (3 * k') (runs_words (i + 1) (list_from g (i + 1) left)) ≡
              sets out₀ 0 (runs_words 0 (list_from g 0 (columns_for w R)))
          stored h =
              let here : out' ≡ sets out (3 * k) (rows_words i (g i)) =
              s.written (omega (arith, all, h, p.long)) ∙ ap (λ (x : List Rows). sets out (3 * k) (rows_words i x)) same in
              let next : 3 * k' ≡ 3 * k + length (rows_words i (g i)) =
              omega (arith, s.count, ap length same, rows_length i (g i)) in
              rw (here, next, add-one i)
              (sym (sets_append out (rows_words i (g i)) (runs_words (suc i) (list_from g (suc i) left)) (3 * k)) ∙
              (rw (add-one i) at (ap (λ (m : ℕ). sets out (3 * k) (runs_words i (list_from g i m))) (sym d) ∙ p.rest h)))

  pub putting_end : 1 ≤ R → w ≤ from →
      (k ≡ count_runs (list_from g 0 (columns_for w R))) ×
      (3 * k ≤ length out₀ → out ≡ sets out₀ 0 (runs_words 0 (list_from g 0 (columns_for w R))))
  unfolding count_runs runs_words list_from
  putting_end r l =
      let d : columns_for w R - i ≡ 0 = omega (arith, rounded_end w R i r (omega (arith, p.place))) in
      let z : k + 0 ≡ count_runs (list_from g 0 (columns_for w R)) =
      ap (λ (m : ℕ). k + count_runs (list_from g i m)) (sym d) ∙ p.count in (
        omega (arith, z),
        λ h. ap (λ (m : ℕ). sets out (3 * k) (runs_words i (list_from g i m))) (sym d) ∙ p.rest (omega (arith, z)),
      )

pub all_put : {o : List ℕ} {t R g w : ℕ} {out₀ out : List ℕ} {i from k : ℕ} → w ≡ extent_x o t →
    Putting (column_runs o t R g) (w + g) R out₀ out i from k → 1 ≤ R → w + g ≤ from → PutRuns o t R g out₀ out k
all_put {o} {t} {R} {g} {w} {out₀} e p r l =
    let same : list_from (column_runs o t R g) 0 (columns_for (w + g) R) ≡ piece_runs o t R g =
    ap (λ (x : ℕ). list_from (column_runs o t R g) 0 (columns_for (x + g) R)) e ∙ sym (piece_runs_lem o t R g) in
    let q = putting_end p r l in
    record {
      count = q.0 ∙ ap count_runs same;
      written = λ h. q.1 h ∙ ap (λ (x : List (List Rows)). sets out₀ 0 (runs_words 0 x)) same;
      long = p.long;
    }

-- the buffers of a column's work, with the slab that is kept
pub at_work : {v : List ℕ} {a b m c : ℕ} {h0 h1 d g0 g1 l h : List ℕ} → length h0 ≡ 64 → length h1 ≡ 64 → length d ≡ 64 →
    length g0 ≡ 64 → length g1 ≡ 64 → length l ≡ 8001 → length h ≡ 8001 → (a < b → Kept v a b m h0 h1 d) →
    NextAt v b (sides v) c → Working v a b m c h0 h1 d g0 g1 l h
at_work e0 e1 ed f0 f1 el eh kept next =
    record {
      buffers = record { left = e0; right = e1; wide = ed; lows = omega arith; highs = omega arith };
      part_left = f0;
      part_right = f1;
      kept = kept;
      next = next;
    }

-- one column more, as `gap_column` leaves it
pub column_put : {o : List ℕ} → Lent o → {t R g w : ℕ} → t ≤ 3 →
    KeepsOrder (turned o t) → w ≡ extent_x o t → 1 ≤ R → {out₀ out : List ℕ} {i from k : ℕ} →
    Putting (column_runs o t R g) (w + g) R out₀ out i from k → from < w + g →
    {h0 h1 d l h : List ℕ} {n a b m c : ℕ} → GapColumnOf (turned o t) from R g w h0 h1 d l h n a b m c →
    {out' : List ℕ} {k' : ℕ} → PutColumn i (pairs l h n) out out' k k' →
    Putting (column_runs o t R g) (w + g) R out₀ out' (i + 1) (from + R) k'
column_put lent {R = R} {g = g} turn keeps wide r {i = i} p s {l = l} {h = h} {n = n} c q =
    putting_next p r s (omega (arith, c.few, length-list_from (pair_at l h) 0 n))
    (column_runs_lem lent R g i turn keeps wide r p.place c) q
