-- The walks of a search. Assumes nothing.
use Rattle.std.specs.Prelude.{ℕ, Option}
use Rattle.walk.specs.declared.WithTries.{WithTries}
use Rattle.walk.specs.declared.sought.Search.{Search}
use Rattle.walk.specs.Steps.{WalkedColumn, WalkedTurn}

abbrev pub WalkedColumnOf : Search → ℕ → WithTries (Option ℕ) → Type 0
WalkedColumnOf s c a = WalkedColumn s.first.now s.lows.now s.highs.now s.runs.now s.columns s.width s.count s.tall c a

abbrev pub WalkedTurnOf : Search → WithTries (Option (ℕ × ℕ)) → Type 0
WalkedTurnOf s a = WalkedTurn s.first.now s.lows.now s.highs.now s.runs.now s.columns s.width s.count s.wide s.tall a
