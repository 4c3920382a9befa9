-- What the answer says of the new table f', l', h': it is the table that the definition enters the piece into, for each list of runs that
-- the piece's words stand for.
-- Assumes nothing.
use Rattle.std.specs.Prelude.{◌≡◌, List, [], ℕ, ◌≤◌, ◌<◌, get_or, Option, Some, None}
use Rattle.defs.specs.Computing.Cells.{Rows, count_runs}
use Rattle.defs.specs.Computing.Search.{position, entered_from}
use Rattle.geom.proofs.RunLists.{Apart}
use Rattle.tables.specs.Flat.{table_of, Laid}
use Rattle.tables.specs.Piece.{Stands}
use Rattle.columnentry.specs.declared.Entry.{Entry}

-- the table after placing
abbrev pub after : (f l h : List ℕ) (g : Entry) (piece : List (List Rows)) (turn : ℕ) → List (List Rows)
after f l h g piece turn = entered_from g.width piece (position turn g.column g.height) 0 (table_of f l h g.columns)

pub record Entered (f l h r f' l' h' : List ℕ) (g : Entry) (t : ℕ) : Type 0 where
  pub laid : Laid f' l' h' g.width g.columns t
  pub few : t ≤ g.most
  pub table : (piece : List (List Rows)) → Stands piece r g.runs → ((i : ℕ) → Apart (get_or piece i [])) → (turn : ℕ) →
      table_of f' l' h' g.columns ≡ after f l h g piece turn

pub record TooMany (f l h r : List ℕ) (g : Entry) : Type 0 where
  pub more : (piece : List (List Rows)) → Stands piece r g.runs → ((i : ℕ) → Apart (get_or piece i [])) → (turn : ℕ) →
      g.most < count_runs (after f l h g piece turn)

abbrev pub Enters : (f l h r f' l' h' : List ℕ) (g : Entry) → Option ℕ → Type 0
Enters f l h r f' l' h' g (Some t) = Entered f l h r f' l' h' g t
Enters f l h r f' l' h' g None = TooMany f l h r g
