-- Lists of calls as wrong programs would make them: "We will try: …", document 01's note from the buying office. Demand 3 holds of none
-- of them, whatever words were lent, whatever else the strip holds and whatever tries are reported. The strip has W 10, R 2, N 10 and no
-- gap, and each call lends the square of 4 by 4 with mask 1, or in turn 0, where nothing else is said. Assumes nothing.
use Rattle.std.specs.Prelude.{◌≡◌, ◌≢◌, List, [], ◌∷◌, ℕ, zero, suc, length, replicate, Result, Ok, Err}
use Rattle.defs.specs.declared.Refusal.{Refusal}
use Rattle.defs.specs.declared.Position.{Position}
use Rattle.defs.specs.Computing.Calls.{refusal}
use Rattle.claims.specs.Trace.{PlaceCall, AskCall, CommitCall, ask_call, commit_call, Call, Calls}
use Rattle.claims.specs.Places.{PlaceCalls, PlaceDemand3}
use Rattle.claims.specs.Demand3.{Demand3}

abbrev pub square : List ℕ
square = 0 ∷ 0 ∷ 4 ∷ 0 ∷ 4 ∷ 4 ∷ 0 ∷ 4 ∷ []

-- turn 0, column 0
abbrev pub at_height : ℕ → Position
at_height y = record { turn = 0; column = 0; height = y }

abbrev pub answered : Result Position Refusal → ℕ → PlaceCall
answered a n = record { outline = square; mask = 1; work = replicate 6 0; answer = a; tries = n; work_after = replicate 6 0 }

abbrev pub calls : List ℕ → ℕ → (ℕ → Result Position Refusal) → (ℕ → ℕ) → (ℕ → List ℕ) → PlaceCalls
calls lent count answer tries strip =
    record { lent = lent; count = count; call = λ m. answered (answer m) (tries m); strip = strip }

-- the first square at height 0, the others at height 4
abbrev pub stacked : ℕ → Result Position Refusal
stacked zero = Ok (at_height 0)
stacked (suc m) = Ok (at_height 4)

-- S-7: box 5 by 6 with mask 3, placed in turn 1
abbrev pub box : List ℕ
box = 0 ∷ 0 ∷ 5 ∷ 0 ∷ 5 ∷ 6 ∷ 0 ∷ 6 ∷ []

abbrev pub box_turned : ℕ → PlaceCall
box_turned n =
    record {
      outline = box;
      mask = 3;
      work = replicate 6 0;
      answer = Ok (record { turn = 1; column = 0; height = 0 });
      tries = n;
      work_after = replicate 6 0;
    }

-- S-2: the square asked for, and committed at turn 0, column 0 and a height
abbrev pub ask_for : Result Position Refusal → ℕ → AskCall
ask_for a n = record { outline = square; mask = 1; work = replicate 6 0; answer = a; tries = n; work_after = replicate 6 0 }

abbrev pub commit_at : ℕ → Result Unit Refusal → CommitCall
commit_at y a = record { outline = square; at = at_height y; work = replicate 6 0; answer = a; work_after = replicate 6 0 }

-- a list of the same call again and again
abbrev pub repeated : List ℕ → ℕ → Call → (ℕ → List ℕ) → Calls
repeated lent count c strip = record { lent = lent; count = count; call = λ _. c; strip = strip }

pub record WrongLists : Type 0 where
  -- "'no position' said before searching"
  pub said_before_searching :
      (lent : List ℕ) (tries : ℕ → ℕ) (strip : ℕ → List ℕ) →
      ¬ PlaceDemand3 10 2 10 0 (calls lent 1 (λ _. Err (refusal 13 1)) tries strip)
  -- "an answer with nothing entered on the strip"
  pub nothing_entered :
      (lent : List ℕ) (tries : ℕ → ℕ) (strip : ℕ → List ℕ) → strip 1 ≡ strip 0 →
      ¬ PlaceDemand3 10 2 10 0 (calls lent 1 (λ _. Ok (at_height 0)) tries strip)
  -- "a strip that takes its first piece and fakes the rest"
  pub rest_faked :
      (lent : List ℕ) (tries : ℕ → ℕ) (strip : ℕ → List ℕ) → strip 2 ≡ strip 1 →
      ¬ PlaceDemand3 10 2 10 0 (calls lent 2 stacked tries strip)
  -- "height 0 always"
  pub height_0_always :
      (lent : List ℕ) (tries : ℕ → ℕ) (strip : ℕ → List ℕ) →
      ¬ PlaceDemand3 10 2 10 0 (calls lent 2 (λ _. Ok (at_height 0)) tries strip)
  -- S-4: the second square right above the first, on a strip with a gap
  pub nearer_than_the_gap :
      (lent : List ℕ) (tries : ℕ → ℕ) (strip : ℕ → List ℕ) →
      ¬ PlaceDemand3 10 2 10 1 (calls lent 2 stacked tries strip)
  -- a free position that is not the best one
  pub not_the_best :
      (lent : List ℕ) (tries : ℕ → ℕ) (strip : ℕ → List ℕ) →
      ¬ PlaceDemand3 10 2 10 0 (calls lent 1 (λ _. Ok (at_height 1)) tries strip)
  -- S-7: the box at R 4, where it ends in column 1 in both turns, placed by the lower top, though its right edge is 6 and not 5
  pub least_last_column :
      (lent : List ℕ) (tries : ℕ → ℕ) (strip : ℕ → List ℕ) →
      ¬ PlaceDemand3 10 4 10 0 (record { lent = lent; count = 1; call = λ m. box_turned (tries m); strip = strip })
  -- "all input refused": with any number, on a strip with six records
  pub all_refused :
      (lent : List ℕ) (tries : ℕ → ℕ) (strip : ℕ → List ℕ) (n k : ℕ) → length lent ≡ 39 →
      ¬ PlaceDemand3 10 2 10 0 (calls lent 1 (λ _. Err (refusal n k)) tries strip)
  -- the same of asks and commits, S-2: an ask that has not searched, that is refused with any number, that answers another position, that
  -- enters
  pub asked_before_searching :
      (lent : List ℕ) (tries : ℕ) (strip : ℕ → List ℕ) →
      ¬ Demand3 10 2 10 0 (repeated lent 1 (ask_call (ask_for (Err (refusal 13 1)) tries)) strip)
  pub asks_refused :
      (lent : List ℕ) (tries : ℕ) (strip : ℕ → List ℕ) (n k : ℕ) → length lent ≡ 39 →
      ¬ Demand3 10 2 10 0 (repeated lent 1 (ask_call (ask_for (Err (refusal n k)) tries)) strip)
  pub asked_not_the_best :
      (lent : List ℕ) (tries : ℕ) (strip : ℕ → List ℕ) →
      ¬ Demand3 10 2 10 0 (repeated lent 1 (ask_call (ask_for (Ok (at_height 1)) tries)) strip)
  pub ask_enters :
      (lent : List ℕ) (tries : ℕ) (strip : ℕ → List ℕ) (a : Result Position Refusal) → strip 1 ≢ strip 0 →
      ¬ Demand3 10 2 10 0 (repeated lent 1 (ask_call (ask_for a tries)) strip)
  -- a commit with nothing entered, two on one place, one that has not looked, one that is refused with any number
  pub commit_not_entered :
      (lent : List ℕ) (strip : ℕ → List ℕ) → strip 1 ≡ strip 0 →
      ¬ Demand3 10 2 10 0 (repeated lent 1 (commit_call (commit_at 0 (Ok tt))) strip)
  pub commit_on_a_piece :
      (lent : List ℕ) (strip : ℕ → List ℕ) → ¬ Demand3 10 2 10 0 (repeated lent 2 (commit_call (commit_at 0 (Ok tt))) strip)
  pub commit_before_looking :
      (lent : List ℕ) (strip : ℕ → List ℕ) →
      ¬ Demand3 10 2 10 0 (repeated lent 1 (commit_call (commit_at 0 (Err (refusal 18 0)))) strip)
  pub commits_refused :
      (lent : List ℕ) (strip : ℕ → List ℕ) (n k : ℕ) → length lent ≡ 39 →
      ¬ Demand3 10 2 10 0 (repeated lent 1 (commit_call (commit_at 0 (Err (refusal n k)))) strip)
