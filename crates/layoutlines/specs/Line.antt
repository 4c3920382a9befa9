-- A line that is put.
-- Assumes nothing.
use Rattle.std.specs.Prelude.{List, [], ◌∷◌, ◌++◌, ℕ}
use Rattle.defs.specs.Computing.Text.{spaced}

-- `line`, of a word that is bytes
abbrev pub lined : List ℕ → List ℕ → List ℕ
lined word ns = word ++ (spaced ns ++ (10 ∷ []))
