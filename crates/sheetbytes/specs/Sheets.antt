-- What must hold of a list and an output before a sheet is written. Assumes nothing.
use Rattle.std.specs.Prelude.{◌≡◌, List, ◌++◌, ℕ, ◌+◌, ◌*◌, ◌≤◌, length, get_or}
use Rattle.defs.specs.Meaning.Sheet.{mark}
use Rattle.defs.specs.Computing.Sheets.{bytes_of, vertices_in, list_pieces}
use Rattle.recordbytes.specs.Fits.{ListFits}

-- the first 16 bytes
abbrev pub front_bytes : ℕ → ℕ → ℕ → ℕ → ℕ → ℕ → List ℕ
front_bytes W R N first vs P =
    mark ++ bytes_of W ++ bytes_of R ++ bytes_of N ++ bytes_of first ++ bytes_of vs ++ bytes_of P

pub record SheetFits (list : List ℕ) (v : ℕ) (out : List ℕ) : Type 0 where
  pub some_words : 1 ≤ length list
  pub list_fits : ListFits list (get_or list 0 0) out
  pub vertices : v ≡ vertices_in (list_pieces list)
  pub room : 16 + 6 * (v + get_or list 0 0) ≤ length out
