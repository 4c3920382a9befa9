-- Two tables of runs that take turns: one is current, and a piece that is placed is entered into the other. Assumes nothing.
use Rattle.std.specs.Prelude.{◌≡◌, Bool, true, false, List, ℕ, ◌≤◌, length, Result}
use Rattle.defs.specs.declared.Position.{Position}
use Rattle.defs.specs.declared.Refusal.{Refusal}
use Rattle.defs.specs.Meaning.Strip.{Limits}
use Rattle.defs.specs.Computing.Cells.{Rows}
use Rattle.defs.specs.Computing.Lay.{held_after}
use Rattle.tables.specs.Flat.{Laid, table_of}
use Rattle.fates.specs.Fates.{turned}

-- the current table
abbrev pub held_by : Bool → (f l h f₂ l₂ h₂ : List ℕ) → ℕ → List (List Rows)
held_by false f l h f₂ l₂ h₂ N = table_of f l h N
held_by true f l h f₂ l₂ h₂ N = table_of f₂ l₂ h₂ N

-- a table of at most Q runs
pub record Board (f l h : List ℕ) (W N Q : ℕ) : Type 0 where
  pub count : ℕ
  pub laid : Laid f l h W N count
  pub few : count ≤ Q

abbrev pub Current : Bool → (f l h f₂ l₂ h₂ : List ℕ) → ℕ → ℕ → ℕ → Type 0
Current false f l h f₂ l₂ h₂ W N Q = Board f l h W N Q
Current true f l h f₂ l₂ h₂ W N Q = Board f₂ l₂ h₂ W N Q

-- arrays with room for any table
pub record Roomy (f l h : List ℕ) : Type 0 where
  pub firsts : 4097 ≤ length f
  pub lows : 24001 ≤ length l
  pub highs : 24001 ≤ length h

pub record Boards (second : Bool) (f l h f₂ l₂ h₂ : List ℕ) (W R N g Q : ℕ) : Type 0 where
  pub limits : Limits W R N
  pub gap : g ≤ 400
  pub records : Q ≤ 16000
  pub room : Roomy f l h
  pub room₂ : Roomy f₂ l₂ h₂
  pub current : Current second f l h f₂ l₂ h₂ W N Q

-- the tables after an answer: the current one has the piece where it is placed
pub record Turns (second : Bool) (f l h f₂ l₂ h₂ f' l' h' f₂' l₂' h₂' : List ℕ) (o : List ℕ) (W R N g Q : ℕ) (a : Result Position Refusal) : Type 0 where
  pub boards : Boards (turned second a) f' l' h' f₂' l₂' h₂' W R N g Q
  pub held :
      held_by (turned second a) f' l' h' f₂' l₂' h₂' N ≡ held_after W R g (held_by second f l h f₂ l₂ h₂ N) o a
