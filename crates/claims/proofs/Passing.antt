-- An outline that passes 7 to 12 as computed: what the search finds for it is best, where it finds none there is no free position,
-- and the count of question 14 is that of the cells. Each is a law of the tables, with what it asks taken from the passed tests.
-- Assumes nothing.
use mathlib.Core.Path.{◌≡◌}
use mathlib.Core.List.{List}
use Prim.Native.Nat.{ℕ, ◌≤◌, ◌<◌}
use Rattle.std.specs.Prelude.{Some, None}
use Rattle.defs.specs.declared.Position.{Position}
use Rattle.defs.specs.Meaning.Outline.{sides}
use Rattle.defs.specs.Meaning.Placing.{Fits, Best}
use Rattle.defs.specs.Meaning.Question.{Asked7to12, Question10, Question13, Question14}
use Rattle.defs.specs.Computing.Cells.{Rows}
use Rattle.defs.specs.Computing.Search.{best_below}
use Rattle.defs.specs.Computing.Calls.{q14b}
use Rattle.laws.proofs.Tests.{Decides}
use Rattle.geom.proofs.Checks as geom
use Rattle.geom.proofs.Checks.{Passes, has_side, passes_resolution}
use Rattle.tables.proofs.Tables.{In, Table}
use Rattle.tables.proofs.Searching as searching
use Rattle.tables.proofs.Records as records

module _ (o : List ℕ) (mask R g words : ℕ) (passes : Passes o mask R g words) where
  pub resolution_positive : 1 ≤ R
  resolution_positive = passes_resolution o mask R g words passes

  pub asked : Asked7to12 o mask R g words
  asked = (geom.checks o mask R g words resolution_positive).0 passes

  pub some_side : 0 < sides o
  some_side = has_side o asked.q7

  module _ (W N : ℕ) (held : List (List Rows)) (table : Table W N held) where
    pub best_found : (p : Position) → best_below W R N g held o mask 4 ≡ Some p → Best W R N g (In held) o mask p
    best_found = searching.best_found W R N g held o mask asked.q10 some_side resolution_positive table

    pub none_found : best_below W R N g held o mask 4 ≡ None → ¬ Question13 W R N g (In held) o mask
    none_found = searching.none_found W R N g held o mask asked.q10 some_side resolution_positive table

    pub question_14 : (Q : ℕ) (p : Position) → Fits W R N g (In held) o mask p →
        Decides (q14b W R g Q held o p) (Question14 W R N g Q (In held) o p)
    unfolding Question10
    question_14 Q p fits =
        records.question_14 W R N g Q held o p (asked.q10 p.turn fits.allowed) some_side resolution_positive table
