-- The test of question 14 decides it: the table after placing has the cells that were held and those of the moved piece, and each of
-- its columns is a list of stretches apart, so it has as many stretches as runs.
-- Assumes nothing.
use mathlib.Core.Logic.Iff
use mathlib.Core.Logic.{◌⊎◌}
use mathlib.Core.List.{List, [], ◌∷◌}
use Prim.Native.Nat.{ℕ, zero, suc, ◌≤◌, ◌<◌}
use lib.ListN.{get_or}
use Rattle.defs.specs.declared.Position.{Position}
use Rattle.defs.specs.Meaning.Outline.{sides, KeepsOrder}
use Rattle.defs.specs.Meaning.Turn.{turned}
use Rattle.defs.specs.Meaning.Placing.{cells_at}
use Rattle.defs.specs.Meaning.Question.{Question14}
use Rattle.defs.specs.Computing.Cells.{Rows, count_runs}
use Rattle.defs.specs.Computing.Search.{entered_column, entered_from, entered}
use Rattle.defs.specs.Computing.Calls.{q14b}
use Rattle.laws.proofs.Tests.{Decides, leb_decides}
use Rattle.geom.proofs.RunLists.{Apart, ApartFrom, stretches_apart}
use Rattle.geom.proofs.Counting.{runs_counted}
use Rattle.tables.proofs.Tables.{In, Table}
use Rattle.tables.proofs.Entered.{entered_cells}

entered_apart_from : (W : ℕ) (piece : List (List Rows)) (p : Position) (k : ℕ) (held : List (List Rows)) (i : ℕ) →
    Apart (get_or (entered_from W piece p k held) i [])
unfolding entered_from entered_column ApartFrom
entered_apart_from W piece p k [] i = tt
entered_apart_from W piece p k (b ∷ bs) zero = stretches_apart _ W
entered_apart_from W piece p k (b ∷ bs) (suc i) = entered_apart_from W piece p (suc k) bs i

pub entered_apart : (W R g : ℕ) (held : List (List Rows)) (o : List ℕ) (p : Position) (i : ℕ) →
    Apart (get_or (entered W R g held o p) i [])
unfolding entered
entered_apart W R g held o p i = entered_apart_from W _ p 0 held i

module _ (W R N g Q : ℕ) (held : List (List Rows)) (o : List ℕ) (p : Position)
    (keeps : KeepsOrder (turned o p.turn)) (some_side : 0 < sides o) (Rpos : 1 ≤ R) (table : Table W N held) where
  pub question_14 : Decides (q14b W R g Q held o p) (Question14 W R N g Q (In held) o p)
  unfolding q14b Question14
  question_14 =
      Iff.trans (leb_decides (count_runs (entered W R g held o p)) Q)
      (runs_counted (λ i j. In held i j ⊎ cells_at W R N g o p i j) (entered W R g held o p) (entered_apart W R g held o p)
      (λ i j. Iff.symm (entered_cells W R N g held o p keeps some_side Rpos table i j)) Q)
