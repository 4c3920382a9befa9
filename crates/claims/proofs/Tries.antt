-- S-5 from the steps of place and ask: their tries are bounded, and there are none where a check before 13 refuses. An ask's answer shows
-- place's, and its tries are place's, so both follow from what place answers and counts.
-- Assumes nothing.
use mathlib.Core.Path.{◌≡◌, refl, sym, subst, ◌∙◌}
use mathlib.Core.Bool.{Bool, true, false}
use mathlib.Core.List.{List}
use Prim.Native.Nat.{ℕ, ◌≤◌, ◌<◌}
use native.Mathlib.Omega.{arith}
use lib.Dec.{eqb}
use lib.ListN.{length}
use Rattle.std.specs.Prelude.{Option, Some, None, Result, Ok, Err}
use Rattle.defs.specs.declared.Position.{Position}
use Rattle.defs.specs.declared.Refusal.{Refusal}
use Rattle.defs.specs.Meaning.Strip.{width_of, resolution_of, columns_of, gap_of}
use Rattle.defs.specs.Computing.Test.{ask}
use Rattle.defs.specs.Computing.Cells.{Rows}
use Rattle.defs.specs.Computing.Words.{well_formedb, records_of, columns_runs}
use Rattle.defs.specs.Computing.Search.{best_below}
use Rattle.defs.specs.Computing.Calls.{refusal, q9b, q12b, q14b, outline_no, choose, place_on, place_answer, ask_answer, tries_on, place_tries}
use Rattle.looks.proofs.Bound.{tries_bound_lem}
use Rattle.looks.proofs.Finds.{walk_finds, few_in_column, steps_enough}
use Rattle.claims.specs.Tries.{bound_on, Tries}

-- 0 where a question gets "no"
asked_most : (a : Bool) {m n : ℕ} → m ≤ n → ◌≤◌ (ask a 0 λ _. m) n
asked_most true l = l
asked_most false l = omega arith

bounded : (s o : List ℕ) (mask words : ℕ) → place_tries s o mask words ≤ bound_on s o mask
unfolding place_tries tries_on
bounded s o mask words =
    asked_most (well_formedb s)
    (asked_most (eqb (outline_no o (q9b mask) mask (resolution_of s)) 0)
    (asked_most (q12b o mask (resolution_of s) (gap_of s) words)
    (tries_bound_lem (width_of s) (resolution_of s) (columns_of s) (gap_of s) (columns_runs s) o mask)))

-- An answer with its tries: where a check before 13 refuses there are none.
abbrev NoneBefore13 : Result Position Refusal → ℕ → Type 0
NoneBefore13 (Ok p) n = Unit {0}
NoneBefore13 (Err r) n = r.number < 13 → n ≡ 0

-- 13, 14 and a placing come with any tries
choose_late : (W R g Q : ℕ) (held : List (List Rows)) (o : List ℕ) (x : Option Position) (n : ℕ) →
    NoneBefore13 (choose W R g Q held o x) n
unfolding choose
choose_late W R g Q held o None n = λ few. absurd (omega arith)
choose_late W R g Q held o (Some p) n = go (q14b W R g Q held o p)
  where
    go : (b : Bool) → NoneBefore13 (ask b (Err (refusal 14 1)) λ _. Ok p) n
    go true = tt
    go false = λ few. absurd (omega arith)

-- a refusal comes with none, or what follows is asked
asked_none : (a : Bool) (r : Refusal) (b : Result Position Refusal) (n : ℕ) → NoneBefore13 b n →
    NoneBefore13 (ask a (Err r) λ _. b) (ask a 0 λ _. n)
asked_none true r b n h = h
asked_none false r b n h = λ few. refl

none_before_13 : (s o : List ℕ) (mask words : ℕ) → NoneBefore13 (place_answer s o mask words) (place_tries s o mask words)
unfolding place_answer place_tries place_on tries_on
none_before_13 s o mask words =
    asked_none (well_formedb s) _ _ _
    (asked_none (eqb (outline_no o (q9b mask) mask (resolution_of s)) 0) _ _ _
    (asked_none (q12b o mask (resolution_of s) (gap_of s) words) _ _ _
    (choose_late (width_of s) (resolution_of s) (gap_of s) (records_of (columns_of s) (length s)) (columns_runs s) o
    (best_below (width_of s) (resolution_of s) (columns_of s) (gap_of s) (columns_runs s) o mask 4) _)))

none_at : (s o : List ℕ) (mask words : ℕ) (r : Refusal) → place_answer s o mask words ≡ Err r → r.number < 13 →
    place_tries s o mask words ≡ 0
none_at s o mask words r e = subst (λ (a : Result Position Refusal). NoneBefore13 a (place_tries s o mask words)) e (none_before_13 s o mask words)

pub tries : Tries
unfolding ask_answer
tries =
    record {
      place_bounded = λ {s} {o} {mask} {work} x. rw x.counted (bounded s o mask (length work));
      ask_bounded = λ {s} {o} {mask} {work} x. rw x.counted (bounded s o mask (length work));
      place_none = λ {s} {o} {mask} {work} {r} x few. x.counted ∙ none_at s o mask (length work) r (sym x.answer) few;
      ask_none =
          λ {s} {o} {mask} {work} {r} x few. x.counted ∙ none_at s o mask (length work) r (sym x.answer) few;
      walk_finds = walk_finds;
      few_in_column = few_in_column;
      steps_enough = steps_enough;
    }
