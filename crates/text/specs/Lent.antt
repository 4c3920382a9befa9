-- What program `lay` lends, and what it has before it prints.
-- Assumes nothing.
use Rattle.std.specs.Prelude.{◌≡◌, true, List, ◌++◌, ℕ, ◌+◌, ◌*◌, ◌≤◌, length, take, Result, Ok}
use Rattle.defs.specs.declared.Refusal.{Refusal}
use Rattle.defs.specs.declared.Totals.{Totals}
use Rattle.defs.specs.Meaning.Limits.{most_pieces}
use Rattle.defs.specs.Meaning.Sheet.{sheet_v, sheet_p}
use Rattle.defs.specs.Computing.Sheets.{q6b}
use Rattle.defs.specs.Computing.Lay.{entries_words, lay_entries, lay_answer}
use Rattle.defs.specs.Computing.Text.{program_strip, program_work, lay_text}

-- lay's answer with no gap, and its output where the job is laid
pub record Answered (b ws : List ℕ) (a : Result Totals Refusal) : Type 0 where
  pub rest : List ℕ
  pub answer : a ≡ lay_answer b 0 (program_strip b) (4 * most_pieces) program_work
  pub output : (t : Totals) → a ≡ Ok t → ws ≡ entries_words (lay_entries b 0 (program_strip b) program_work) ++ rest

-- a sheet that passes 2 and 6
pub record Passes (b : List ℕ) : Type 0 where
  pub two : length b ≡ 16 + 6 * sheet_v b + 6 * sheet_p b
  pub six : q6b b ≡ true

-- the text stands in the first r bytes
pub record Shows (b out : List ℕ) (r : ℕ) : Type 0 where
  pub text : take r out ≡ lay_text b
  pub within : r ≤ length out
