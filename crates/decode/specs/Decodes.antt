-- What decode answers: the runs of a well-formed strip in a table laid flat.
-- Assumes nothing.
use Rattle.std.specs.Prelude.{◌≡◌, true, false, List, ℕ, ◌≤◌, length, Option, Some, None}
use Rattle.defs.specs.Meaning.Strip.{columns_of}
use Rattle.defs.specs.Computing.Words.{records_of, well_formedb, columns_runs}
use Rattle.tables.specs.Flat.{Flat, table_of}

-- the strip is well formed, and the table holds its runs
pub record Holds_runs (s f l h : List ℕ) (t : ℕ) : Type 0 where
  pub well_formed : well_formedb s ≡ true
  pub flat : Flat f l h (columns_of s) t
  pub table : table_of f l h (columns_of s) ≡ columns_runs s
  pub few : t ≤ records_of (columns_of s) (length s)

abbrev pub Decodes : (s f l h : List ℕ) → Option ℕ → Type 0
Decodes s f l h (Some t) = Holds_runs s f l h t
Decodes s f l h None = well_formedb s ≡ false
