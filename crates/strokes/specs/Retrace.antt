-- The retrace call, which tells whether an outline draws a stretch twice: the test of two edges, and what is answered.
-- Assumes nothing.
use Rattle.std.specs.Prelude.{◌≡◌, Bool, cond, ◌&&◌, ◌||◌, List, ℕ, suc, ◌+◌, ◌*◌, ◌-◌, max, min, ltb, eqb, Option, Some, None, Result, Ok, Err}
use Rattle.defs.specs.declared.Refusal.{Refusal}
use Rattle.defs.specs.declared.EdgePair.{EdgePair}
use Rattle.defs.specs.Meaning.Outline.{Edge, edge_at, sides, height, width}
use Rattle.defs.specs.Computing.Test.{ask, first_from}
use Rattle.defs.specs.Computing.Calls.{refusal, q7b, q8b}

-- Two edges rise alike: yr − yl over the width is the same, by products.
unfoldable pub rise_alike : Edge → Edge → Bool
rise_alike e f = eqb (e.yr * width f + f.yl * width e) (f.yr * width e + e.yl * width f)

-- They have the same height at x = k.
unfoldable pub level : Edge → Edge → ℕ → Bool
level e f k = eqb (height e k 1 * width f) (height f k 1 * width e)

-- Edges that are not vertical run along each other: they both span a unit column, rise alike, and are level where the later one begins.
unfoldable pub run_along : Edge → Edge → Bool
run_along e f =
    ltb (max e.xl f.xl) (min e.xr f.xr) && (rise_alike e f && level e f (max e.xl f.xl))

-- Vertical edges do: they stand at one x and have a stretch of heights in common.
unfoldable pub stand_along : Edge → Edge → Bool
stand_along e f =
    (eqb e.xl e.xr && (eqb f.xl f.xr && eqb e.xl f.xl)) &&
    ltb (max (min e.yl e.yr) (min f.yl f.yr)) (min (max e.yl e.yr) (max f.yl f.yr))

unfoldable pub sharesb : Edge → Edge → Bool
sharesb e f = run_along e f || stand_along e f

-- the first edge after edge i that shares a stretch with it
unfoldable pub shared_after : List ℕ → ℕ → Option ℕ
shared_after o i =
    first_from (λ j. cond (sharesb (edge_at o i) (edge_at o j)) (Some j) None) (suc i) (sides o - suc i)

abbrev pub numbered : ℕ → Option ℕ → Option EdgePair
numbered i None = None
numbered i (Some j) = Some (record { first = i + 1; second = j + 1 })

unfoldable pub first_pair : List ℕ → Option EdgePair
first_pair o = first_from (λ i. numbered i (shared_after o i)) 0 (sides o)

abbrev pub traced : Option EdgePair → Result (Option EdgePair) Refusal
traced None = Ok None
traced (Some p) = Ok (Some p)

-- 7 and 8 are asked of the outline, as of any that is lent.
unfoldable pub retrace_answer : List ℕ → Result (Option EdgePair) Refusal
retrace_answer o =
    ask (q7b o) (Err (refusal 7 1)) λ _.
    ask (q8b o) (Err (refusal 8 1)) λ _.
    traced (first_pair o)

-- The contract of the call.
pub record RetraceStep (o : List ℕ) (a : Result (Option EdgePair) Refusal) : Type 0 where
  pub answer : a ≡ retrace_answer o
