-- The walk of S-5 over a table laid flat: how many tries it makes in a column from a height on, and in a turn from a column on.
-- Assumes nothing.
use Rattle.std.specs.Prelude.{Bool, true, false, List, ℕ, suc, ◌+◌, ◌≤◌, ◌<◌, Option, Some, None}
use Rattle.tables.specs.Piece.{run_column, run_low, run_high}
use Rattle.tries.specs.Tries.{Lands}
use Rattle.walk.specs.declared.WithTries.{WithTries}
use Rattle.walk.specs.Free.{FreeTo, Walked, Searched}

-- From height y on the walk of column c makes n tries, and ends at a free height or not: a height past the top is no try; a free one is
-- the last; from another one it goes on where the first run that clashes lands. Runs past the last column clash with nothing.
pub data Steps (f l h r : List ℕ) (N W p t c : ℕ) : ℕ → ℕ → Bool → Type 0 where
  past : (y : ℕ) → W < y + t → Steps f l h r N W p t c y 0 false
  free : (y : ℕ) → y + t ≤ W → FreeTo f l h r N c y p → Steps f l h r N W p t c y 1 true
  jump : (y z n k : ℕ) (b : Bool) → y + t ≤ W → k < p → c + run_column r k < N → FreeTo f l h r N c y k →
      Lands f l h (c + run_column r k) (run_low r k) (run_high r k) y z →
      Steps f l h r N W p t c z n b → Steps f l h r N W p t c y (suc n) b

-- From column c on the walk of a turn makes n tries: a column off the strip is not tried; one with a free height is the last.
pub data TurnSteps (f l h r : List ℕ) (N W p w t : ℕ) : ℕ → ℕ → Type 0 where
  off : (c : ℕ) → N < c + w → TurnSteps f l h r N W p w t c 0
  found : (c n : ℕ) → c + w ≤ N → Steps f l h r N W p t c 0 n true → TurnSteps f l h r N W p w t c n
  next : (c n m : ℕ) → c + w ≤ N → Steps f l h r N W p t c 0 n false → TurnSteps f l h r N W p w t (c + 1) m →
      TurnSteps f l h r N W p w t c (n + m)

-- whether a height was found
abbrev pub is_up : Option ℕ → Bool
is_up (Some y) = true
is_up None = false

-- a column: its least free height, and the tries; at most one for each height
pub record WalkedColumn (f l h r : List ℕ) (N W p t c : ℕ) (a : WithTries (Option ℕ)) : Type 0 where
  pub height : Walked f l h r N W p t c a.found
  pub steps : Steps f l h r N W p t c 0 a.tries (is_up a.found)
  pub few : a.tries ≤ 65536

-- a turn: its least free position, and the tries; at most 65,536 in each of 4,097 columns
pub record WalkedTurn (f l h r : List ℕ) (N W p w t : ℕ) (a : WithTries (Option (ℕ × ℕ))) : Type 0 where
  pub spot : Searched f l h r N W p w t a.found
  pub steps : TurnSteps f l h r N W p w t 0 a.tries
  pub few : a.tries ≤ 268500992
