-- The table of runs that lay goes on from: it can be written as a strip before each piece, and what place answers on a strip that holds
-- it, and what it leaves, are said by the table alone.
-- Assumes nothing.
use mathlib.Core.Path.{◌≡◌, refl, sym, ◌∙◌}
use mathlib.Core.Bool.{true}
use mathlib.Core.List.{List, []}
use Prim.Native.Nat.{ℕ}
use native.Mathlib.Omega.{arith}
use lib.ListN.{length, get_or}
use lib.Seq.{ext_get_or}
use borrow.Author.Tests.{leb-true}
use Rattle.std.specs.Prelude.{Result, Ok}
use Rattle.defs.specs.declared.Refusal.{Refusal}
use Rattle.defs.specs.declared.Position.{Position}
use Rattle.defs.specs.Meaning.Strip.{Length}
use Rattle.defs.specs.Computing.Cells.{Rows, piece_runs}
use Rattle.defs.specs.Computing.Words.{columns_runs}
use Rattle.defs.specs.Computing.Search.{entered_column, entered}
use Rattle.defs.specs.Computing.Calls.{q14b, place_on, place_answer, Left, PlaceLeaves}
use Rattle.defs.specs.Computing.Lay.{held_after}
use Rattle.geom.proofs.Stretches.{stretches_are}
use Rattle.laws.proofs.Questions.{records_are}
use Rattle.tables.proofs.Columns.{column_at}
use Rattle.tables.proofs.Held.{table_of_lem}
use Rattle.tables.proofs.Entered.{entered_at, entered_length}
use Rattle.tables.proofs.Records.{entered_apart}
use Rattle.tables.proofs.Written.{Writable}
use Rattle.claims.proofs.Fates.{Fate, early, short, no_place, full, placed}

-- what a call makes of a table that can be written can be written too
entered_writable : (W R N g Q : ℕ) (held : List (List Rows)) (o : List ℕ) (p : Position) → Writable W N Q held →
    q14b W R g Q held o p ≡ true → Writable W N Q (entered W R g held o p)
unfolding q14b entered entered_column
entered_writable W R N g Q held o p w room =
    let piece = piece_runs o p.turn R g in
    record {
      long = entered_length W piece p 0 held ∙ w.long;
      apart = λ k h. entered_apart W R g held o p k;
      below = λ k j h e. ((stretches_are _ W j).0 (rw (entered_at W piece p held k (omega (arith, w.long))) at e)).0;
      fits = leb-true _ _ room;
    }

pub after_writable : (W R N g Q n mask : ℕ) (held : List (List Rows)) (o : List ℕ) (a : Result Position Refusal) → Fate W R N g Q held o mask n a →
    Writable W N Q held → Writable W N Q (held_after W R g held o a)
unfolding held_after
after_writable W R N g Q n mask held o a (early m e) w = w
after_writable W R N g Q n mask held o a (short e7 e12) w = w
after_writable W R N g Q n mask held o a (no_place e7 e12 e13) w = w
after_writable W R N g Q n mask held o a (full e7 e12 p e13 e14) w = w
after_writable W R N g Q n mask held o a (placed e7 e12 p e13 e14) w = entered_writable W R N g Q held o p w e14

-- a strip with the runs of this table
module _
    {W R N g Q words : ℕ}
    {s : List ℕ}
    (held : List (List Rows))
    (long : Length N Q words)
    (columns : length held ≡ N)
    (left : Left W R N g words (λ k. get_or held k []) s) where
  table_is : columns_runs s ≡ held
  table_is =
      let rows = (table_of_lem s left.well_formed).long in
      ext_get_or [] (columns_runs s) held (rows ∙ left.columns ∙ sym columns)
      (λ k h. column_at s k (omega (arith, rows)) ∙ left.holds k (omega (arith, rows, left.columns)))

  pub answer_is : (o : List ℕ) (mask n : ℕ) → place_answer s o mask n ≡ place_on W R N g Q held o mask n
  unfolding place_answer
  answer_is o mask n =
      rw (
        left.well_formed,
        left.width,
        left.resolution,
        left.columns,
        left.gap,
        left.long,
        records_are N Q words long,
        table_is,
      ) refl

  pub leaves_is : (o : List ℕ) (p : Position) (s' : List ℕ) → Left W R N g words (λ k. get_or (entered W R g held o p) k []) s' →
      PlaceLeaves s o (Ok p) s'
  unfolding PlaceLeaves
  leaves_is o p s' l = rw (left.width, left.resolution, left.columns, left.gap, left.long, table_is) l
