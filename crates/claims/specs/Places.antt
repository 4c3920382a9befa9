-- Lists of place calls alone, as document 01 has them, and demand 3 of them in its own words: such a list is a list of calls.
-- Assumes nothing.
use Rattle.std.specs.Prelude.{◌≡◌, ◌↔◌, ◌≢◌, List, ℕ, suc, ◌≤◌, ◌<◌, length, Ok}
use Rattle.defs.specs.declared.Position.{Position}
use Rattle.defs.specs.Answer.{number_of}
use Rattle.defs.specs.Meaning.Outline.{Inside}
use Rattle.defs.specs.Meaning.Cell.{Cells}
use Rattle.defs.specs.Meaning.Strip.{Length}
use Rattle.defs.specs.Meaning.Placing.{moved, OnStrip, Free, Best, OccupiedBefore}
use Rattle.defs.specs.Meaning.Question.{AskedBefore13, Question13, Question14}
use Rattle.defs.specs.Computing.Calls.{OpenStep, PlaceStep}
use Rattle.claims.specs.Trace.{PlaceCall, place_call, Calls}
use Rattle.claims.specs.Distance.{Distant}
use Rattle.claims.specs.Demand3.{StripIs, Demand3}

pub record PlaceCalls : Type 0 where
  pub lent : List ℕ
  pub count : ℕ
  pub call : ℕ → PlaceCall
  pub strip : ℕ → List ℕ

-- its steps are those of open and place
pub record PlaceTrace (W R N g : ℕ) (x : PlaceCalls) : Type 0 where
  pub open_step : OpenStep W R N g x.lent (Ok tt) (x.strip 0)
  pub place_step :
      (m : ℕ) → m < x.count →
      PlaceStep (x.strip m) (x.call m).outline (x.call m).mask (x.call m).work (x.call m).answer
      (x.call m).tries (x.strip (suc m)) (x.call m).work_after

-- Such a list is a list of calls.
abbrev pub as_calls : PlaceCalls → Calls
as_calls x = record { lent = x.lent; count = x.count; call = λ m. place_call (x.call m); strip = x.strip }

-- "a granted place call makes one placed piece, its outline moved to the position answered, …; a refused one, whatever its
-- number, makes none."
abbrev pub Places : PlaceCall → Position → Type 0
Places c p = c.answer ≡ Ok p

-- "A cell is occupied there if it is covered for a piece placed by an earlier call of the list, whatever the strip's words say."
abbrev pub PlacedCells : ℕ → ℕ → ℕ → ℕ → (ℕ → PlaceCall) → ℕ → Cells
PlacedCells W R N g call m = OccupiedBefore W R N g (λ l. (call l).outline) (λ l p. Places (call l) p) m

module _ (x : PlaceCalls) where
  abbrev outline : ℕ → List ℕ
  outline m = (x.call m).outline

  abbrev mask : ℕ → ℕ
  mask m = (x.call m).mask

  -- what call m asks before 13
  abbrev Asked : ℕ → ℕ → ℕ → Type 0
  Asked R g m = AskedBefore13 (x.strip m) (outline m) (mask m) R g (length (x.call m).work)

pub record PlaceDemand3 (W R N g : ℕ) (x : PlaceCalls) : Type 0 where
  pub Q : ℕ
  pub opened_with : Length N Q (length x.lent)
  -- "no point lies inside two placed pieces"
  pub no_point_in_two :
      (l m : ℕ) (p q : Position) (a b d : ℕ) → l < m → m < x.count → Places (x.call l) p → Places (x.call m) q →
      Inside (moved R (outline x l) p) a b d → ¬ Inside (moved R (outline x m) q) a b d
  -- S-4: "Two points inside different pieces must then differ by at least g in x or in y."
  pub points_apart :
      (l m : ℕ) (p q : Position) (a b d a' b' d' : ℕ) → l < m → m < x.count → Places (x.call l) p → Places (x.call m) q →
      Inside (moved R (outline x l) p) a b d → Inside (moved R (outline x m) q) a' b' d' → Distant g a b d a' b' d'
  -- "each placed piece is on the strip, free of the cells of those before it,"
  pub on_strip : (m : ℕ) (p : Position) → m < x.count → Places (x.call m) p → OnStrip W R N (outline x m) p
  pub free :
      (m : ℕ) (p : Position) → m < x.count → Places (x.call m) p → Free (PlacedCells W R N g x.call m) W R N g (outline x m) p
  -- "and best in its allowed turns"
  pub best :
      (m : ℕ) (p : Position) → m < x.count → Places (x.call m) p →
      Best W R N g (PlacedCells W R N g x.call m) (outline x m) (mask x m) p
  -- "'no position' (13) exactly when the checks before it pass and no free position exists in any allowed turn"
  pub no_position :
      (m : ℕ) → m < x.count →
      (number_of (x.call m).answer ≡ 13) ↔
      (Asked x R g m × ¬ Question13 W R N g (PlacedCells W R N g x.call m) (outline x m) (mask x m))
  -- "never 5"
  pub never_5 : (m : ℕ) → m < x.count → number_of (x.call m).answer ≢ 5
  -- "a call whose checks all pass places": 5 and 7 to 12 as asked, a free position, and 14 of the best one
  pub places_it :
      (m : ℕ) → m < x.count → Asked x R g m →
      Question13 W R N g (PlacedCells W R N g x.call m) (outline x m) (mask x m) →
      ((p : Position) → Best W R N g (PlacedCells W R N g x.call m) (outline x m) (mask x m) p →
      Question14 W R N g Q (PlacedCells W R N g x.call m) (outline x m) p) →
      (p : Position) × Places (x.call m) p
  -- demand 2 over the list: "The strip holds the cells of the placed pieces and no others", before call m and, at m = count,
  -- after the list
  pub strip_is : (m : ℕ) → m ≤ x.count → StripIs W R N g Q (x.strip m) (PlacedCells W R N g x.call m)

-- "One claim over every list of place calls from a freshly opened strip, refused calls anywhere among them"
unfoldable pub PlaceDemand3_holds : Type 0
PlaceDemand3_holds = (W R N g : ℕ) (x : PlaceCalls) → PlaceTrace W R N g x → PlaceDemand3 W R N g x

-- and it is the case of place calls alone, whoever made them
unfoldable pub Places_follow : Type 0
Places_follow = (W R N g : ℕ) (x : PlaceCalls) → Demand3 W R N g (as_calls x) → PlaceDemand3 W R N g x
