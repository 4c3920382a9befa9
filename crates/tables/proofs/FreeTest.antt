-- The test of one position decides whether it is free: two stretches that have rows meet exactly when some row lies in both, so the
-- test looks for a row that is the moved piece's and the table's, column by column. With it question 18.
-- Assumes nothing.
use mathlib.Core.Path.{◌≡◌, refl, sym, ap, subst, ◌∙◌}
use mathlib.Core.Logic.{inl, inr, ⊎_elim}
use mathlib.Core.Bool.{false≢true}
use mathlib.Core.List.{List, [], ◌∷◌}
use Prim.Native.Nat.{ℕ, zero, suc, ◌+◌, ◌-◌, ◌≤◌, ◌<◌, max}
use native.Mathlib.Omega.{arith}
use lib.ListN.{get_or}
use Rattle.defs.specs.declared.Position.{Position}
use Rattle.defs.specs.Meaning.Outline.{sides, KeepsOrder}
use Rattle.defs.specs.Meaning.Turn.{turned}
use Rattle.defs.specs.Meaning.Placing.{end_column, top, Free}
use Rattle.defs.specs.Meaning.Question.{Question18}
use Rattle.defs.specs.Computing.Test.{any}
use Rattle.defs.specs.Computing.Cells.{Rows, piece_runs}
use Rattle.defs.specs.Computing.Search.{meets, freeb, drop_n}
use Rattle.defs.specs.Computing.Calls.{q18b}
use Rattle.geom.proofs.Stretches.{Valid, Among, among_of, of_among}
use Rattle.geom.proofs.PieceCells.{runs_valid}
use Rattle.laws.proofs.Tests.{Decides, leb_decides, ltb_decides, and_decides, or_decides, not_decides, decides_by}
use Rattle.tables.proofs.Tables.{In, in_table, Table}
use Rattle.tables.proofs.Moved.{moved_cells}

-- row j is one of the stretch
abbrev Row : Rows → ℕ → Type 0
Row r j = (r.low ≤ j) × (j < r.high)

-- The greater of the two lowest rows is in both stretches, if any row is.
stretch_meets : (y : ℕ) (r b : Rows) → r.low < r.high → b.low < b.high →
    Decides (meets y r b) ((j : ℕ) × Row r j × Row b (j + y))
unfolding meets
stretch_meets y r b rs bs =
    decides_by (λ h. (max r.low (b.low - y), omega (arith, h.0, h.1), omega (arith, h.0, h.1)))
    (λ s. (omega (arith, s.1, s.2), omega (arith, s.1, s.2)))
    (and_decides (ltb_decides (r.low + y) b.high) (ltb_decides b.low (r.high + y)))

column_meets : (y : ℕ) (r : Rows) (b : List Rows) → r.low < r.high → Valid b →
    Decides (any (meets y r) b) ((j : ℕ) × Row r j × Among b (j + y))
unfolding any Valid Among
column_meets y r [] rs v = (λ e. absurd (false≢true e), λ s. absurd s.2)
column_meets y r (x ∷ b) rs v =
    decides_by (⊎_elim (λ s. (s.0, s.1, inl s.2)) (λ s. (s.0, s.1, inr s.2)))
    (λ s. ⊎_elim (λ h. inl (s.0, s.1, h)) (λ h. inr (s.0, s.1, h)) s.2)
    (or_decides (stretch_meets y r x rs v.0) (column_meets y r b rs v.1))

-- a row of c that is a row of b when it is moved up by y
abbrev pub Shares : ℕ → List Rows → List Rows → Type 0
Shares y c b = (j : ℕ) × Among c j × Among b (j + y)

columns_meet : (y : ℕ) (c b : List Rows) → Valid c → Valid b → Decides (any (λ (x : Rows). any (meets y x) b) c) (Shares y c b)
unfolding any Valid Among
columns_meet y [] b u v = (λ e. absurd (false≢true e), λ s. absurd s.1)
columns_meet y (x ∷ c) b u v =
    decides_by (⊎_elim (λ s. (s.0, inl s.1, s.2)) (λ s. (s.0, inr s.1, s.2)))
    (λ s. ⊎_elim (λ h. inl (s.0, h, s.2)) (λ h. inr (s.0, h, s.2)) s.1)
    (or_decides (column_meets y x b u.0 v) (columns_meet y c b u.1 v))

-- Past the end of either list there is no row.
pub test_by_column : (y : ℕ) (piece strip : List (List Rows)) → ((i : ℕ) → Valid (get_or piece i [])) → ((i : ℕ) → Valid (get_or strip i [])) →
    Decides (freeb y piece strip) ((i : ℕ) → ¬ Shares y (get_or piece i []) (get_or strip i []))
unfolding freeb Among
test_by_column y [] strip u v = (λ e i s. s.1, λ h. refl)
test_by_column y (c ∷ cs) [] u v = (λ e i s. s.2, λ h. refl)
test_by_column y (c ∷ cs) (b ∷ bs) u v =
    decides_by each (λ h. (h 0, λ i. h (suc i)))
    (and_decides (not_decides (columns_meet y c b (u 0) (v 0))) (test_by_column y cs bs (λ i. u (suc i)) (λ i. v (suc i))))
  where
    each : (¬ Shares y c b) × ((i : ℕ) → ¬ Shares y (get_or cs i []) (get_or bs i [])) →
        (i : ℕ) → ¬ Shares y (get_or (c ∷ cs) i []) (get_or (b ∷ bs) i [])
    each h zero = h.0
    each h (suc i) = h.1 i

pub drop_n_at : (n : ℕ) (bs : List (List Rows)) (i : ℕ) → get_or (drop_n n bs) i [] ≡ get_or bs (n + i) []
unfolding drop_n
drop_n_at zero bs i = ap (λ (k : ℕ). get_or bs k []) (omega arith)
drop_n_at (suc n) [] i = refl
drop_n_at (suc n) (b ∷ bs) i =
    let e : suc (n + i) ≡ suc n + i = omega arith in
    drop_n_at n bs i ∙ ap (λ (k : ℕ). get_or (b ∷ bs) k []) e

-- A position need not be on the strip for this. The table's rows lie on the strip, so the piece's rows past it share none of them.
module _ (W R N g : ℕ) (held : List (List Rows)) (o : List ℕ) (p : Position)
    (keeps : KeepsOrder (turned o p.turn)) (some_side : 0 < sides o) (Rpos : 1 ≤ R) (table : Table W N held) where
  pub free_decides : Decides (freeb p.height (piece_runs o p.turn R g) (drop_n p.column held)) (Free (In held) W R N g o p)
  unfolding Free
  free_decides =
      decides_by
      (λ apart i j cell taken.
      let k = (moved_cells R g o p keeps some_side Rpos i j).0 cell.cell in
      let ei : p.column + (i - p.column) ≡ i = omega (arith, k.0) in
      let ej : j - p.height + p.height ≡ j = omega (arith, k.1) in
      apart (i - p.column)
      (j - p.height, among_of _ (j - p.height) k.2, rw (drop_n_at, ei, ej) (among_of (get_or held i []) j taken)))
      (λ free i s.
      let ei : p.column + i - p.column ≡ i = omega arith in
      let ej : s.0 + p.height - p.height ≡ s.0 = omega arith in
      let taken : In held (p.column + i) (s.0 + p.height) = of_among _ (s.0 + p.height) (rw drop_n_at at s.2) in
      free (p.column + i) (s.0 + p.height)
      (record {
        cell =
            (moved_cells R g o p keeps some_side Rpos (p.column + i) (s.0 + p.height)).1
            (omega arith, omega arith, rw (ei, ej) (of_among _ s.0 s.1));
        column = omega (arith, in_table held (p.column + i) (s.0 + p.height) taken, table.long);
        row = table.below (p.column + i) (s.0 + p.height) taken;
      })
      taken)
      (test_by_column p.height (piece_runs o p.turn R g) (drop_n p.column held) (runs_valid o p.turn R g)
      (λ i. subst Valid (sym (drop_n_at p.column held i)) (table.valid (p.column + i))))

  pub question_18 : Decides (q18b W R N g held o p) (Question18 W R N g (In held) o p)
  unfolding q18b end_column top
  question_18 =
      decides_by (λ h. record { on_strip = record { columns = h.0.0; rows = h.0.1 }; free = h.1 })
      (λ q. ((q.on_strip.columns, q.on_strip.rows), q.free))
      (and_decides (and_decides (leb_decides _ _) (leb_decides _ _)) free_decides)
