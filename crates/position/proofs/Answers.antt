-- The answer of place on a table, question by question: what was asked says which case of the definition it is.
-- Assumes nothing.
use mathlib.Core.Path.{◌≡◌, refl, sym, ap, ◌∙◌}
use mathlib.Core.Logic.Iff
use mathlib.Core.Logic.{◌↔◌, ◌≢◌}
use mathlib.Core.Bool.{Bool, true, false}
use mathlib.Core.List.{List}
use Prim.Native.Nat.{ℕ, ◌*◌, ◌/◌, ◌≤◌, ◌<◌}
use native.Mathlib.Omega.{arith}
use lib.Dec.{eqb}
use borrow.Author.Tests.{ne_eqb, le-leb, lt-leb, not-true}
use Rattle.std.specs.Prelude.{Option, Some, None, Result, Ok, Err}
use Rattle.defs.specs.declared.Refusal.{Refusal}
use Rattle.defs.specs.declared.Position.{Position}
use Rattle.defs.specs.declared.PlacingTries.{PlacingTries}
use Rattle.defs.specs.Meaning.Question.{Question10, Question12}
use Rattle.defs.specs.Computing.Test.{ask}
use Rattle.defs.specs.Computing.Cells.{Rows, most_runs}
use Rattle.defs.specs.Computing.Search.{best_below}
use Rattle.defs.specs.Computing.Walk.{tries_below}
use Rattle.defs.specs.Computing.Calls.{refusal, q9b, q11b, q12b, q14b, outline_no, choose, place_on, tries_on}
use Rattle.laws.proofs.Questions.{question_7}
use Rattle.laws.proofs.Tests.{not_decides}
use Rattle.geom.proofs.Checks.{question_10, question_12, most_same, runs_of_turn, none_no_is, has_side}
use Rattle.checks.proofs.Bounded.{lent_of}
use Rattle.asked.specs.Answers.{order_no, FirstNo}
use Rattle.asked.proofs.InOrder.{Ordered, ordered, some_no}
use Rattle.outline.specs.declared.Bounds.{Bounds}
use Rattle.outline.specs.Vertex.{BoundsOf}
use Rattle.tables.specs.Flat.{Laid, table_of}
use Rattle.tables.proofs.Flats.{table_flat}
use Rattle.tables.proofs.Searching.{best_found}
use Rattle.search.specs.declared.Way.{Way}
use Rattle.search.specs.declared.Way.TheVariants.{Walk as ByWalk, Round}
use Rattle.ranks.specs.declared.Tried.{Tried}
use Rattle.ranks.specs.declared.Ranked.{Ranked}
use Rattle.best.specs.Choice.{place_of, TriesAre, TurnsTo}
use Rattle.best.proofs.Choices.{tries_same}
use Rattle.position.specs.Table.{Enterable, EntersAt, PlacedOn, CountedOn}

module _ (W R N g Q : ℕ) (held : List (List Rows)) (o : List ℕ) (mask words : ℕ) where
  -- a "no" before 13, and so no tries
  abbrev pub Untried : ℕ → Type 0
  Untried n = (Err (refusal n 1) ≡ place_on W R N g Q held o mask words) × (tries_on W R N g held o mask words ≡ 0)

  outline_no_lem : {n : ℕ} → outline_no o (q9b mask) mask R ≡ n → n ≢ 0 → Untried n
  unfolding place_on tries_on
  outline_no_lem {n} e z =
      let f : eqb (outline_no o (q9b mask) mask R) 0 ≡ false = ap (λ (m : ℕ). eqb m 0) e ∙ ne_eqb n 0 z in
      (rw (f, e) refl, rw f refl)

  -- to one of 7 to 10
  pub to_ten : {r : ℕ} → 1 ≤ R → FirstNo o (q9b mask) mask r → 0 < r → Untried r
  to_ten Rpos f n = outline_no_lem (sym (f.every R Rpos)) (λ z. omega arith)

  module _ {way : Way} {s : Tried} (Rpos : 1 ≤ R) (y : Ordered o (q9b mask) mask) (tried : TurnsTo W R N g held o mask 4 words way s) where
    -- question 11 is answered by the runs with the gap: there is one exactly when there is one without
    runs_same : (0 < most_runs o mask R g 4) ↔ (q11b o mask R ≡ true)
    runs_same = most_same o mask R ((question_10 o mask).0 y.ten) (has_side o ((question_7 o).0 y.seven)) Rpos g

    pub eleven : s.most ≡ 0 → Untried 11
    unfolding outline_no
    eleven z =
        let e : q11b o mask R ≡ false = not-true _ ((not_decides (Iff.symm runs_same)).1 (λ l. omega (arith, tried.most))) in
        let first : outline_no o (q9b mask) mask R ≡ 11 = rw (y.seven, y.eight, y.nine, y.ten, e) refl in
        outline_no_lem first (λ bad. omega arith)

    module _ (some_runs : s.most ≢ 0) where
      cell : q11b o mask R ≡ true
      cell = runs_same.0 (omega (arith, some_runs, tried.most))

      none_no : outline_no o (q9b mask) mask R ≡ 0
      none_no = (none_no_is o (q9b mask) mask R).1 (y.seven, y.eight, y.nine, y.ten, cell)

      pub twelve : words / 3 < s.most → Untried 12
      unfolding place_on tries_on q12b
      twelve l =
          let e = lt-leb (3 * most_runs o mask R g 4) words (omega (arith, tried.most)) in
          (rw (none_no, e) refl, rw (none_no, e) refl)

      module _ (fits : s.most ≤ words / 3) where
        room : q12b o mask R g words ≡ true
        unfolding q12b
        room = le-leb (3 * most_runs o mask R g 4) words (omega (arith, tried.most))

        chosen : place_on W R N g Q held o mask words ≡ choose W R g Q held o (best_below W R N g held o mask 4)
        unfolding place_on
        chosen = rw (none_no, room) refl

        -- the tries are those of the allowed turns
        all_tries : tries_on W R N g held o mask words ≡ tries_below W R N g held o mask 4
        unfolding tries_on
        all_tries = rw (none_no, room) refl

        pub tries_on_lem : TriesAre way s.tries (tries_on W R N g held o mask words)
        tries_on_lem = tries_same way _ _ _ (sym all_tries) (tried.tries (omega arith))

        -- the definition's best position is that of the choice
        best_is : (c : Option Ranked) → s.best ≡ c → best_below W R N g held o mask 4 ≡ place_of c
        best_is c e = sym (tried.best (omega arith)).is ∙ ap place_of e

        pub thirteen : s.best ≡ None → Err (refusal 13 1) ≡ place_on W R N g Q held o mask words
        unfolding choose
        thirteen e = sym (chosen ∙ ap (choose W R g Q held o) (best_is None e))

        pub fourteen : (b : Ranked) → s.best ≡ Some b →
            (ask (q14b W R g Q held o b.at) (Err (refusal 14 1)) λ _. Ok b.at) ≡ place_on W R N g Q held o mask words
        unfolding choose
        fourteen b e = sym (chosen ∙ ap (choose W R g Q held o) (best_is (Some b) e))

        -- the position is on the strip, and the work buffer has room for the runs of its turn
        pub enterable : {f l h : List ℕ} {n words' : ℕ} {x : Bounds} (b : Ranked) → held ≡ table_of f l h N → Laid f l h W N n →
            BoundsOf o x → s.best ≡ Some b → words' ≡ words → Enterable f l h o W R N g x words' b.at
        unfolding Question10 Question12
        enterable {f} {l} {h} b eh laid bounds e same =
            let q10 = (question_10 o mask).0 y.ten in
            let side = has_side o ((question_7 o).0 y.seven) in
            let best =
            best_found W R N g held o mask q10 side Rpos (rw eh (table_flat laid)) b.at
            (best_is (Some b) e) in
            let keeps = q10 b.at.turn best.fits.allowed in
            let few = (question_12 o mask R q10 side Rpos g words).0 room b.at.turn best.fits.allowed in
            record {
              lent = lent_of o y.seven y.eight;
              bounds = bounds;
              turn = best.fits.allowed.turn;
              keeps = keeps;
              on_strip = best.fits.on_strip;
              room = omega (arith, (runs_of_turn o b.at.turn R g keeps side Rpos (words / 3)).1 few);
            }

-- what questions 7 to 10 say, with the answer to 9 by its name
pub passed : (o : List ℕ) (mask : ℕ) {ninth : Bool} → ninth ≡ q9b mask → order_no o ninth mask ≡ 0 → Ordered o (q9b mask) mask
passed o mask {ninth} e z = ordered o (q9b mask) mask (sym (ap (λ (b : Bool). order_no o b mask) e) ∙ z)

pub refused_to_ten : (o : List ℕ) (mask : ℕ) {ninth : Bool} {r : ℕ} → ninth ≡ q9b mask → r ≡ order_no o ninth mask → 0 < r →
    FirstNo o (q9b mask) mask r
refused_to_ten o mask e f n = some_no o (q9b mask) mask (f ∙ ap (λ (b : Bool). order_no o b mask) e) n

-- a refusal leaves no next table
pub refused_on : {f l h f' l' h' o : List ℕ} {W R N g Q mask words number : ℕ} {a : Result Position Refusal} → a ≡ Err (refusal number 1) →
    Err (refusal number 1) ≡ place_on W R N g Q (table_of f l h N) o mask words →
    PlacedOn f l h f' l' h' o W R N g Q mask words a
refused_on e q = rw e (record { answer = q; next = tt })

pub placed_on : {f l h f' l' h' o : List ℕ} {W R N g Q mask words : ℕ} {a : Result Position Refusal} (p : Position) →
    EntersAt f l h f' l' h' o W R N g Q p a →
    (ask (q14b W R g Q (table_of f l h N) o p) (Err (refusal 14 1)) λ _. Ok p) ≡ place_on W R N g Q (table_of f l h N) o mask words →
    PlacedOn f l h f' l' h' o W R N g Q mask words a
placed_on p e q = record { answer = e.answer ∙ q; next = e.next }

-- refused before anything was tried
no_tries : (way : Way) (n : ℕ) → n ≡ 0 → TriesAre way 0 n
no_tries ByWalk n e = sym e
no_tries Round n e = tt

pub untried_on : {f l h f' l' h' o : List ℕ} {W R N g Q mask words number : ℕ} (way : Way) {a : PlacingTries} →
    a ≡ record { placing = Err (refusal number 1); tries = 0 } → Untried W R N g Q (table_of f l h N) o mask words number →
    CountedOn f l h f' l' h' o W R N g Q mask words way a.placing a.tries
untried_on way e q = rw e (record { placed = refused_on refl q.0; counted = no_tries way _ q.1 })
