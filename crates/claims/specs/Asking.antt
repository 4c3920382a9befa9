-- Ask and commit, and place as both together (S-2). Assumes nothing.
use Rattle.std.specs.Prelude.{◌≡◌, ◌↔◌, ◌⊎◌, List, ℕ, ◌<◌, length, Result, Ok, Err}
use Rattle.defs.specs.declared.Position.{Position}
use Rattle.defs.specs.declared.Refusal.{Refusal}
use Rattle.defs.specs.Computing.Calls.{refusal, PlaceStep, AskStep, CommitStep}

-- An ask, and, where it finds a position, a granted commit there of the same outline, with the same work buffer.
pub data AskThenCommit (s o : List ℕ) (mask : ℕ) (work : List ℕ) : Result Position Refusal → ℕ → List ℕ → List ℕ → Type 0 where
  none_found :
      {r : Refusal} {n : ℕ} {s' work' : List ℕ} → AskStep s o mask work (Err r) n s' work' →
      AskThenCommit s o mask work (Err r) n s' work'
  committed :
      {p : Position} {n : ℕ} {s₁ work₁ s' work' : List ℕ} → AskStep s o mask work (Ok p) n s₁ work₁ →
      CommitStep s₁ o p work₁ (Ok tt) s' work' → AskThenCommit s o mask work (Ok p) n s' work'

-- "Place stays as ask and commit together.", for every input and in both directions. The 12 of place and ask is the larger one: it asks
-- for the runs of each allowed turn, where the commit's asks for those of its own turn.
unfoldable pub Place_is_ask_and_commit : Type 0
Place_is_ask_and_commit =
    (s o : List ℕ) (mask : ℕ) (work : List ℕ) (a : Result Position Refusal) (n : ℕ) (s' work' : List ℕ) →
    PlaceStep s o mask work a n s' work' ↔ AskThenCommit s o mask work a n s' work'

-- A commit at what an ask has just answered is granted; only a shorter work buffer may get 12.
unfoldable pub Commit_as_asked : Type 0
Commit_as_asked =
    (s o : List ℕ) (mask : ℕ) (work : List ℕ) (p : Position) (n : ℕ) (s₁ work₁ : List ℕ) → AskStep s o mask work (Ok p) n s₁ work₁ →
    (work₂ : List ℕ) (a : Result Unit Refusal) (s' work' : List ℕ) → CommitStep s₁ o p work₂ a s' work' →
    (a ≡ Ok tt) ⊎ ((a ≡ Err (refusal 12 1)) × (length work₂ < length work))
