-- A piece committed on a table of runs laid flat. Assumes nothing.
use Rattle.std.specs.Prelude.{◌≡◌, List, ℕ, Result, Ok, Err}
use Rattle.defs.specs.declared.Refusal.{Refusal}
use Rattle.defs.specs.declared.Position.{Position}
use Rattle.defs.specs.Computing.Calls.{commit_on}
use Rattle.tables.specs.Flat.{table_of}
use Rattle.cover.specs.Turn.{turn_no}
use Rattle.best.specs.declared.laid.Board.{Board}
use Rattle.position.specs.Table.{NextIf}

-- an outline passes 7 to 10 in turn t
pub record TurnPasses (o : List ℕ) (t : ℕ) : Type 0 where
  pub none_no : 0 ≡ turn_no o t

-- a commit's answer in the form of place's
abbrev pub placed_at : Position → Result Unit Refusal → Result Position Refusal
placed_at p (Ok tt) = Ok p
placed_at p (Err r) = Err r

pub record CommittedOn (f l h f' l' h' o : List ℕ) (W R N g Q : ℕ) (p : Position) (words : ℕ) (a : Result Position Refusal) : Type 0 where
  pub answer : a ≡ placed_at p (commit_on W R N g Q (table_of f l h N) o p words)
  pub next : NextIf f l h f' l' h' o W R N g Q a

abbrev pub CommittedIn : Board → (f' l' h' o : List ℕ) → Position → ℕ → Result Position Refusal → Type 0
CommittedIn k f' l' h' o p words a =
    CommittedOn k.first.now k.lows.now k.highs.now f' l' h' o k.figures.width k.figures.resolution k.figures.columns k.gap k.records p words a
