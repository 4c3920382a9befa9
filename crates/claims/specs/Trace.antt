-- Lists of calls from a freshly opened strip ("Placing" of document 01; S-2: "any list as in demand 3, now of ask, commit and place"),
-- and which pieces such a list has put on the strip. Assumes nothing.
use Rattle.std.specs.Prelude.{◌≡◌, List, ℕ, suc, ◌<◌, Result, Ok}
use Rattle.defs.specs.declared.Refusal.{Refusal}
use Rattle.defs.specs.declared.Position.{Position}
use Rattle.defs.specs.Answer.{number_of, number_of_ask, number_of_commit}
use Rattle.defs.specs.Meaning.Cell.{Cells}
use Rattle.defs.specs.Meaning.Placing.{OccupiedBy}
use Rattle.defs.specs.Computing.Calls.{OpenStep, PlaceStep, AskStep, CommitStep}

-- "Each call gets any outline, mask and work buffer, taken as they stand at that call"; with what it answers and leaves.
pub record PlaceCall : Type 0 where
  pub outline : List ℕ
  pub mask : ℕ
  pub work : List ℕ
  pub answer : Result Position Refusal
  pub tries : ℕ
  pub work_after : List ℕ

pub record AskCall : Type 0 where
  pub outline : List ℕ
  pub mask : ℕ
  pub work : List ℕ
  pub answer : Result Position Refusal
  pub tries : ℕ
  pub work_after : List ℕ

pub record CommitCall : Type 0 where
  pub outline : List ℕ
  pub at : Position
  pub work : List ℕ
  pub answer : Result Unit Refusal
  pub work_after : List ℕ

pub data Call : Type 0 where
  place_call : PlaceCall → Call
  ask_call : AskCall → Call
  commit_call : CommitCall → Call

-- The call's step, from strip s to strip s'.
unfoldable pub Step : Call → List ℕ → List ℕ → Type 0
Step (place_call c) s s' = PlaceStep s c.outline c.mask c.work c.answer c.tries s' c.work_after
Step (ask_call c) s s' = AskStep s c.outline c.mask c.work c.answer c.tries s' c.work_after
Step (commit_call c) s s' = CommitStep s c.outline c.at c.work c.answer s' c.work_after

-- A list of calls on one strip, by any program: the words lent to open; call 0 .. call (count - 1); strip m are the words before
-- call m, and strip count those after the list.
pub record Calls : Type 0 where
  pub lent : List ℕ
  pub count : ℕ
  pub call : ℕ → Call
  pub strip : ℕ → List ℕ

-- "A list begins after a granted open, with nothing placed. Each call gets … the strip as open or the call before it,
-- granted or refused, left it; nothing else writes the strip meanwhile.": its steps are those of open and of the calls.
pub record Trace (W R N g : ℕ) (x : Calls) : Type 0 where
  pub open_step : OpenStep W R N g x.lent (Ok tt) (x.strip 0)
  pub step : (m : ℕ) → m < x.count → Step (x.call m) (x.strip m) (x.strip (suc m))

-- the number that a call answers, 0 where it is granted
unfoldable pub number_in : Call → ℕ
number_in (place_call c) = number_of c.answer
number_in (ask_call c) = number_of_ask c.answer
number_in (commit_call c) = number_of_commit c.answer

-- "the calls alone, by their arguments and answers, say what is placed: a granted place call makes one placed piece, its
-- outline moved to the position answered, …; a refused one, whatever its number, makes none." S-2: "a committed piece counts as
-- placed …, an ask places none." The call has put outline o at p.
unfoldable pub Puts : Call → List ℕ → Position → Type 0
Puts (place_call c) o p = (c.outline ≡ o) × (c.answer ≡ Ok p)
Puts (ask_call c) o p = ⊥
Puts (commit_call c) o p = (c.outline ≡ o) × (c.at ≡ p) × (c.answer ≡ Ok tt)

-- a "granted call that changes the strip"
unfoldable pub Changes : Call → Type 0
Changes (place_call c) = (p : Position) × (c.answer ≡ Ok p)
Changes (ask_call c) = ⊥
Changes (commit_call c) = c.answer ≡ Ok tt

-- The piece that call l has put, outline o at p, is on the strip before call m.
pub record Lies (call : ℕ → Call) (m l : ℕ) (o : List ℕ) (p : Position) : Type 0 where
  pub earlier : l < m
  pub puts : Puts (call l) o p

-- "A cell is occupied there if it is covered for a piece placed by an earlier call of the list, whatever the strip's words say."
abbrev pub Occupied : ℕ → ℕ → ℕ → ℕ → (ℕ → Call) → ℕ → Cells
Occupied W R N g call m = OccupiedBy W R N g (Lies call m)
