-- What must hold of a list and an output before records are written. Assumes nothing.
use Rattle.std.specs.Prelude.{List, map, ℕ, suc, ◌+◌, ◌*◌, ◌≤◌, ◌<◌, length, get_or, drop}
use Rattle.defs.specs.Meaning.Sheet.{list_piece}
use Rattle.defs.specs.Computing.Sheets.{vertices_in, list_tails}

pub record OutlineFits (list : List ℕ) (from count first : ℕ) (out : List ℕ) (to : ℕ) : Type 0 where
  pub in_list : from + 2 * count ≤ length list
  pub in_out : to + 6 * count ≤ length out
  pub small : first + count < 65537

-- the words of n pieces are complete
pub data Complete : ℕ → List ℕ → Type 0 where
  no_piece : {ws : List ℕ} → Complete 0 ws
  a_piece : {n : ℕ} {ws : List ℕ} → 2 + 2 * get_or ws 0 0 ≤ length ws → Complete n (drop (2 + 2 * get_or ws 0 0) ws) → Complete (suc n) ws

pub record ListFits (list : List ℕ) (count : ℕ) (out : List ℕ) : Type 0 where
  pub complete : Complete count (drop 1 list)
  pub in_out : 16 + 6 * vertices_in (map list_piece (list_tails count (drop 1 list))) ≤ length out
  pub vertices_few : vertices_in (map list_piece (list_tails count (drop 1 list))) < 65535
  pub pieces_few : count < 65535
