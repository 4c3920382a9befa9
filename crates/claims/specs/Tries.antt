-- S-5: the tries that ask and place report. That they are the steps of the walk (Computing/Walk of defs) is `counted` of their steps; here,
-- what can be said of them, and that the walk finds what is promised. Assumes nothing.
use Rattle.std.specs.Prelude.{◌≡◌, List, [], ℕ, ◌+◌, ◌-◌, ◌≤◌, ◌<◌, length, get_or, Result, Err}
use Rattle.defs.specs.declared.Position.{Position}
use Rattle.defs.specs.declared.Refusal.{Refusal}
use Rattle.defs.specs.Meaning.Turn.{extent_y}
use Rattle.defs.specs.Meaning.Strip.{width_of, resolution_of, columns_of, gap_of}
use Rattle.defs.specs.Computing.Cells.{Rows}
use Rattle.defs.specs.Computing.Words.{columns_runs}
use Rattle.defs.specs.Computing.Search.{first_free}
use Rattle.defs.specs.Computing.Walk.{heights_from, heights_in, turn_walk, walk_end, tries_bound}
use Rattle.defs.specs.Computing.Calls.{PlaceStep, AskStep}

-- "the (turn, column) pairs in which a height was tried, times (1 + p × q)", for an outline and mask on strip s
abbrev pub bound_on : List ℕ → List ℕ → ℕ → ℕ
bound_on s o mask = tries_bound (width_of s) (resolution_of s) (columns_of s) (gap_of s) (columns_runs s) o mask

pub record Tries : Type 0 where
  -- "They are at most …"
  pub place_bounded :
      {s o : List ℕ} {mask : ℕ} {work : List ℕ} {a : Result Position Refusal} {n : ℕ} {s' work' : List ℕ} → PlaceStep s o mask work a n s' work' →
      n ≤ bound_on s o mask
  pub ask_bounded :
      {s o : List ℕ} {mask : ℕ} {work : List ℕ} {a : Result Position Refusal} {n : ℕ} {s' work' : List ℕ} → AskStep s o mask work a n s' work' →
      n ≤ bound_on s o mask
  -- "0 where a check before 13 refuses"
  pub place_none :
      {s o : List ℕ} {mask : ℕ} {work : List ℕ} {r : Refusal} {n : ℕ} {s' work' : List ℕ} →
      PlaceStep s o mask work (Err r) n s' work' → r.number < 13 → n ≡ 0
  pub ask_none :
      {s o : List ℕ} {mask : ℕ} {work : List ℕ} {r : Refusal} {n : ℕ} {s' work' : List ℕ} →
      AskStep s o mask work (Err r) n s' work' → r.number < 13 → n ≡ 0
  -- What is counted is what is promised: the walk of a turn ends at the turn's least free position, and nowhere if it has none.
  pub walk_finds : (W R N g : ℕ) (strip : List (List Rows)) (o : List ℕ) (t : ℕ) → walk_end W R N g strip o t ≡ first_free W R N g strip o t
  -- A column has at most W - h + 1 tries; and that many steps are enough, so the definition's bound on them ends no column.
  pub few_in_column :
      (W R N g : ℕ) (strip : List (List Rows)) (o : List ℕ) (t c : ℕ) →
      length (get_or (turn_walk W R N g strip o t) c []) ≤ (W + 1) - extent_y o t
  pub steps_enough :
      (W h : ℕ) (piece there : List (List Rows)) (n : ℕ) → (W + 1) - h ≤ n → heights_from W h piece there n 0 ≡ heights_in W h piece there
