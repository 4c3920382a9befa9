-- Words put into an output. Assumes nothing.
use Rattle.std.specs.Prelude.{◌≡◌, List, ℕ, ◌+◌, length}
use Rattle.std.proofs.lemmas.List.Edits.{sets}

-- the words stand from place `to`, every other word is kept, and r is the place after them
pub record Put (out out' : List ℕ) (to : ℕ) (ws : List ℕ) (r : ℕ) : Type 0 where
  pub words : out' ≡ sets out to ws
  pub after : r ≡ to + length ws
