-- Demand 3 as one claim about a whole list of calls, with ask and commit by S-2: it speaks of what the calls were lent, answered and
-- left, and of no program. Assumes nothing.
use Rattle.std.specs.Prelude.{◌≡◌, ◌↔◌, ◌≢◌, ◌⊎◌, List, ℕ, suc, ◌^◌, ◌≤◌, ◌<◌, length, Result, Ok, Err}
use Rattle.defs.specs.declared.Refusal.{Refusal}
use Rattle.defs.specs.declared.Position.{Position}
use Rattle.defs.specs.Answer.{number_of, number_of_ask, number_of_commit}
use Rattle.defs.specs.Meaning.Limits.{most_turn}
use Rattle.defs.specs.Meaning.Outline.{Inside}
use Rattle.defs.specs.Meaning.Cell.{Cells}
use Rattle.defs.specs.Meaning.Strip.{Length, WellFormed, Holds, width_of, resolution_of, columns_of, gap_of}
use Rattle.defs.specs.Meaning.Placing.{moved, OnStrip, Free, Best}
use Rattle.defs.specs.Meaning.Question.{AskedBefore13, Question13, Question14, Question18}
use Rattle.defs.specs.Computing.Calls.{refusal, PlaceStep}
use Rattle.claims.specs.Distance.{Distant}
use Rattle.claims.specs.Trace.{PlaceCall, AskCall, CommitCall, place_call, ask_call, commit_call, Calls, Trace, number_in, Puts, Changes, Lies, Occupied}

-- A strip of these figures that holds the cells C and no others.
pub record StripIs (W R N g Q : ℕ) (s : List ℕ) (C : Cells) : Type 0 where
  pub well_formed : WellFormed s Q
  pub width : width_of s ≡ W
  pub resolution : resolution_of s ≡ R
  pub columns : columns_of s ≡ N
  pub gap : gap_of s ≡ g
  pub holds : (i j : ℕ) → Holds s i j ↔ C i j

module _ (x : Calls) where
  -- what is occupied before call m
  abbrev pub Taken : ℕ → ℕ → ℕ → ℕ → ℕ → Cells
  Taken W R N g m = Occupied W R N g x.call m

  -- call m is this place, ask or commit call
  abbrev pub Place : ℕ → PlaceCall → Type 0
  Place m c = (m < x.count) × (x.call m ≡ place_call c)

  abbrev pub Ask : ℕ → AskCall → Type 0
  Ask m c = (m < x.count) × (x.call m ≡ ask_call c)

  abbrev pub Commit : ℕ → CommitCall → Type 0
  Commit m c = (m < x.count) × (x.call m ≡ commit_call c)

  -- what is asked before 13, or before 18, with this outline, mask and work buffer at call m
  abbrev pub Asked : ℕ → ℕ → ℕ → List ℕ → ℕ → List ℕ → Type 0
  Asked R g m o mask work = AskedBefore13 (x.strip m) o mask R g (length work)

  -- "13. Is there a free position?" at call m
  abbrev pub SomeFree : ℕ → ℕ → ℕ → ℕ → ℕ → List ℕ → ℕ → Type 0
  SomeFree W R N g m o mask = Question13 W R N g (Taken W R N g m) o mask

  -- "with no other granted call that changes the strip between them"
  abbrev pub NoChange : ℕ → ℕ → Type 0
  NoChange l m = (k : ℕ) → l < k → k < m → ¬ Changes (x.call k)

pub record Demand3 (W R N g : ℕ) (x : Calls) : Type 0 where
  pub Q : ℕ
  pub opened_with : Length N Q (length x.lent)
  -- "No point may lie inside two pieces after any list as in demand 3": before each call, and, at m = count, after the list
  pub no_point_in_two :
      (m k l : ℕ) (o v : List ℕ) (p q : Position) (a b d : ℕ) → m ≤ x.count → k < l →
      Lies x.call m k o p → Lies x.call m l v q → Inside (moved R o p) a b d → ¬ Inside (moved R v q) a b d
  -- S-4: "Two points inside different pieces must then differ by at least g in x or in y."
  pub points_apart :
      (m k l : ℕ) (o v : List ℕ) (p q : Position) (a b d a' b' d' : ℕ) → m ≤ x.count → k < l →
      Lies x.call m k o p → Lies x.call m l v q → Inside (moved R o p) a b d → Inside (moved R v q) a' b' d' →
      Distant g a b d a' b' d'
  -- "Turn t (0 to 3)": each piece put is in a turn, a committed piece too
  pub in_turn : (m : ℕ) (o : List ℕ) (p : Position) → m < x.count → Puts (x.call m) o p → p.turn ≤ most_turn
  -- "each placed piece is on the strip, free of the cells of those before it," a committed piece too
  pub on_strip : (m : ℕ) (o : List ℕ) (p : Position) → m < x.count → Puts (x.call m) o p → OnStrip W R N o p
  pub free : (m : ℕ) (o : List ℕ) (p : Position) → m < x.count → Puts (x.call m) o p → Free (Taken x W R N g m) W R N g o p
  -- "Best position is promised for place,"
  pub best_place :
      (m : ℕ) (c : PlaceCall) (p : Position) → Place x m c → c.answer ≡ Ok p →
      Best W R N g (Taken x W R N g m) c.outline c.mask p
  -- "Ask answers the position that place would give"
  pub best_ask :
      (m : ℕ) (c : AskCall) (p : Position) → Ask x m c → c.answer ≡ Ok p →
      Best W R N g (Taken x W R N g m) c.outline c.mask p
  -- "and, in the ask's allowed turns, for a commit of the same outline at an ask's answer with no other granted call that
  -- changes the strip between them."
  pub best_commit :
      (l m : ℕ) (a : AskCall) (c : CommitCall) → l < m → Ask x l a → Commit x m c → a.outline ≡ c.outline →
      a.answer ≡ Ok c.at → NoChange x l m → c.answer ≡ Ok tt →
      Best W R N g (Taken x W R N g m) c.outline a.mask c.at
  -- such a commit is granted; only a work buffer shorter than the ask's may get 12
  pub as_asked :
      (l m : ℕ) (a : AskCall) (c : CommitCall) → l < m → Ask x l a → Commit x m c → a.outline ≡ c.outline →
      a.answer ≡ Ok c.at →
      NoChange x l m → (c.answer ≡ Ok tt) ⊎ ((c.answer ≡ Err (refusal 12 1)) × (length c.work < length a.work))
  -- "'no position' (13) exactly when the checks before it pass and no free position exists in any allowed turn"
  pub no_position :
      (m : ℕ) (c : PlaceCall) → Place x m c →
      (number_of c.answer ≡ 13) ↔
      (Asked x R g m c.outline c.mask c.work × ¬ SomeFree x W R N g m c.outline c.mask)
  pub ask_no_position :
      (m : ℕ) (c : AskCall) → Ask x m c →
      (number_of_ask c.answer ≡ 13) ↔
      (Asked x R g m c.outline c.mask c.work × ¬ SomeFree x W R N g m c.outline c.mask)
  -- "18 when a commit's position is off the strip or not free, asked instead of 13, which no commit answers"
  pub commit_18 :
      (m : ℕ) (c : CommitCall) → Commit x m c →
      (number_of_commit c.answer ≡ 18) ↔
      (Asked x R g m c.outline (2 ^ c.at.turn) c.work × ¬ Question18 W R N g (Taken x W R N g m) c.outline c.at)
  pub commit_never_13 : (m : ℕ) (c : CommitCall) → Commit x m c → number_of_commit c.answer ≢ 13
  -- "never 5"
  pub never_5 : (m : ℕ) → m < x.count → number_in (x.call m) ≢ 5
  -- "a call whose checks all pass places": 5 and 7 to 12 as asked, a free position, and 14 of the best one
  pub places_it :
      (m : ℕ) (c : PlaceCall) → Place x m c → Asked x R g m c.outline c.mask c.work → SomeFree x W R N g m c.outline c.mask →
      ((p : Position) → Best W R N g (Taken x W R N g m) c.outline c.mask p →
      Question14 W R N g Q (Taken x W R N g m) c.outline p) →
      (p : Position) × (c.answer ≡ Ok p)
  -- an ask then answers a position, and a commit enters
  pub finds_it :
      (m : ℕ) (c : AskCall) → Ask x m c → Asked x R g m c.outline c.mask c.work → SomeFree x W R N g m c.outline c.mask →
      ((p : Position) → Best W R N g (Taken x W R N g m) c.outline c.mask p →
      Question14 W R N g Q (Taken x W R N g m) c.outline p) →
      (p : Position) × (c.answer ≡ Ok p)
  pub commits_it :
      (m : ℕ) (c : CommitCall) → Commit x m c → Asked x R g m c.outline (2 ^ c.at.turn) c.work →
      Question18 W R N g (Taken x W R N g m) c.outline c.at → Question14 W R N g Q (Taken x W R N g m) c.outline c.at →
      c.answer ≡ Ok tt
  -- "Ask answers the position that place would give, or its number, and changes no strip word.": whatever a place call in its stead
  -- may answer by the definitions
  pub ask_as_place :
      (m : ℕ) (c : AskCall) (b : Result Position Refusal) (n : ℕ) (s' work' : List ℕ) → Ask x m c →
      PlaceStep (x.strip m) c.outline c.mask c.work b n s' work' → c.answer ≡ b
  pub ask_keeps : (m : ℕ) (c : AskCall) → Ask x m c → x.strip (suc m) ≡ x.strip m
  -- demand 2 over the list: "The strip holds the cells of the placed pieces and no others", before call m and, at m = count,
  -- after the list
  pub strip_is : (m : ℕ) → m ≤ x.count → StripIs W R N g Q (x.strip m) (Taken x W R N g m)

-- "One claim over every list" of calls "from a freshly opened strip, refused calls anywhere among them"
unfoldable pub Demand3_holds : Type 0
Demand3_holds = (W R N g : ℕ) (x : Calls) → Trace W R N g x → Demand3 W R N g x
