-- What is chosen among turns, on a board. Assumes nothing.
use Rattle.std.specs.Prelude.{List, ℕ}
use Rattle.defs.specs.Computing.Cells.{Rows}
use Rattle.tables.specs.Flat.{table_of}
use Rattle.tables.proofs.Copies.{NoneBefore}
use Rattle.search.specs.declared.Way.{Way}
use Rattle.ranks.specs.declared.Tried.{Tried}
use Rattle.best.specs.declared.laid.Board.{Board}
use Rattle.best.specs.Choice.{NoneInTurn, OneTurn, TurnsTo, Kept}

abbrev pub held_on : Board → List (List Rows)
held_on k = table_of k.first.now k.lows.now k.highs.now k.figures.columns

abbrev pub NoneBeforeOn : Board → List ℕ → ℕ → ℕ → Type 0
NoneBeforeOn k o mask lower = NoneBefore k.figures.width k.figures.resolution k.figures.columns k.gap (held_on k) o mask lower

abbrev pub NoneInTurnOn : Board → List ℕ → ℕ → ℕ → Type 0
NoneInTurnOn k o t lower = NoneInTurn k.figures.width k.figures.resolution k.figures.columns k.gap (held_on k) o t lower

abbrev pub OneTurnOn : Board → List ℕ → ℕ → ℕ → ℕ → Way → Tried → Type 0
OneTurnOn k o t words limit way s = OneTurn k.figures.width k.figures.resolution k.figures.columns k.gap (held_on k) o t words limit way s

abbrev pub TurnsOn : Board → List ℕ → ℕ → ℕ → ℕ → Way → Tried → Type 0
TurnsOn k o mask t words way s = TurnsTo k.figures.width k.figures.resolution k.figures.columns k.gap (held_on k) o mask t words way s

abbrev pub KeptOn : Board → List ℕ → List ℕ → ℕ → ℕ → Type 0
KeptOn k o work t n = Kept o k.figures.resolution k.gap work t n
