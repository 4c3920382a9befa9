-- The lines that are put, from the numbers that are at hand.
-- Assumes nothing.
use Rattle.std.specs.Prelude.{cond, List, [], ◌∷◌, ◌++◌, ℕ, zero, suc, ◌+◌, ◌*◌, ◌≤◌, length, get_or, eqb}
use Rattle.defs.specs.declared.Position.{Position}
use Rattle.defs.specs.declared.Fate.{Fate}
use Rattle.defs.specs.declared.Fate.TheVariants.{Placed, Refused}
use Rattle.defs.specs.declared.Figures.{Figures}
use Rattle.defs.specs.declared.Totals.{Totals}
use Rattle.defs.specs.Meaning.Limits.{most_pieces}
use Rattle.defs.specs.Computing.Text.{line, entry_line, totals_line}

-- the fate that an entry's four words from place j say
unfoldable pub fate_at : List ℕ → ℕ → Fate
fate_at ws j =
    let position : Position = record { turn = get_or ws (j + 1) 0; column = get_or ws (j + 2) 0; height = get_or ws (j + 3) 0 } in
    cond (eqb (get_or ws j 0) 0) (Placed position) (Refused (get_or ws j 0))

-- the lines of so many entries, from entry i on, which has ordinal i + 1
unfoldable pub entries_lines : List ℕ → ℕ → ℕ → List ℕ
entries_lines ws i zero = []
entries_lines ws i (suc n) = entry_line (record { ordinal = i + 1; fate = fate_at ws (4 * i) }) ++ entries_lines ws (i + 1) n

pub record EntriesFit (out : List ℕ) (at : ℕ) (ws : List ℕ) (count : ℕ) : Type 0 where
  pub few : count ≤ most_pieces
  pub words : 4 * count ≤ length ws
  pub room : at + 31 * count ≤ length out

unfoldable pub laid_lines : Figures → List ℕ → ℕ → Totals → List ℕ
laid_lines f ws count t =
    line "strip" (f.width ∷ f.resolution ∷ f.columns ∷ []) ++ (entries_lines ws 0 count ++ totals_line t)

pub record LaidFits (out ws : List ℕ) (count : ℕ) : Type 0 where
  pub few : count ≤ most_pieces
  pub words : 4 * count ≤ length ws
  pub room : 8192 ≤ length out
