-- What is known of a list after questions 7 to 11. An answer holds for every resolution. Assumes nothing.
use Rattle.std.specs.Prelude.{◌≡◌, true, List, ℕ, ◌+◌, ◌*◌, ◌≤◌, ◌<◌, length, get_or, drop, Option, Some, None, Result, Ok, Err}
use Rattle.defs.specs.declared.Refusal.{Refusal}
use Rattle.defs.specs.Meaning.Limits.{most_vertices}
use Rattle.defs.specs.Computing.Sheets.{vertices_in, list_tails, list_pieces, list_piece_no, q7_listb, first_no}

-- the piece at place a passes 7
pub record PieceWhole (list : List ℕ) (a : ℕ) : Type 0 where
  pub seven : q7_listb (drop a list) ≡ true
  pub few : get_or list a 0 ≤ most_vertices
  pub whole : a + (2 + 2 * get_or list a 0) ≤ length list

-- the first of 7 to 11 that gets "no" for the piece with which these words begin
pub record PieceNo (ws : List ℕ) (n : ℕ) : Type 0 where
  pub every : (R : ℕ) → 1 ≤ R → n ≡ list_piece_no R ws

-- an answer that tells it: its number, or that there is none
abbrev pub PieceAsked : List ℕ → Result Unit ℕ → Type 0
PieceAsked ws (Ok tt) = PieceNo ws 0
PieceAsked ws (Err n) = PieceNo ws n × (0 < n)

-- the first piece of the list with a "no"
abbrev pub first_refusal : ℕ → List ℕ → Option Refusal
first_refusal R list = first_no (list_piece_no R) 1 (list_tails (get_or list 0 0) (drop 1 list))

pub record NoneRefused (list : List ℕ) (v : ℕ) : Type 0 where
  pub every : (R : ℕ) → 1 ≤ R → first_refusal R list ≡ None
  pub vertices : v ≡ vertices_in (list_pieces list)
  pub few : v ≤ 12800

pub record FirstRefused (list : List ℕ) (r : Refusal) : Type 0 where
  pub every : (R : ℕ) → 1 ≤ R → first_refusal R list ≡ Some r

-- "7 to 11 piece by piece"
abbrev pub Asked : List ℕ → Result ℕ Refusal → Type 0
Asked list (Ok v) = NoneRefused list v
Asked list (Err r) = FirstRefused list r
