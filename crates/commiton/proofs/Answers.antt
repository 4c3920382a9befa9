-- The answer of a commit on a table, question by question.
-- Assumes nothing.
use mathlib.Core.Path.{◌≡◌, refl, ap, ◌∙◌}
use mathlib.Core.Bool.{Bool, true, false}
use mathlib.Core.List.{List}
use Prim.Native.Nat.{ℕ, ◌+◌, ◌*◌, ◌/◌, ◌≤◌, ◌<◌}
use native.Mathlib.Omega.{arith}
use lib.Dec.{ltb}
use lib.ListN.{length}
use borrow.Author.Tests.{lt-ltb, le-leb, lt-leb}
use Rattle.std.specs.Prelude.{Result, Ok, Err}
use Rattle.defs.specs.declared.Refusal.{Refusal}
use Rattle.defs.specs.declared.Position.{Position}
use Rattle.defs.specs.Meaning.Outline.{KeepsOrder}
use Rattle.defs.specs.Meaning.Turn.{turned, extent_x, extent_y}
use Rattle.defs.specs.Meaning.Placing.{columns_for, end_column, top}
use Rattle.defs.specs.Computing.Test.{ask}
use Rattle.defs.specs.Computing.Cells.{Rows, piece_runs, count_runs}
use Rattle.defs.specs.Computing.Search.{freeb, drop_n}
use Rattle.defs.specs.Computing.Calls.{refusal, q14b, q18b, commit_on}
use Rattle.laws.proofs.Tests.{Decides, leb_decides, and_decides, same_test, pos_not_zero}
use Rattle.geom.proofs.OneTurn.{room_one}
use Rattle.geom.proofs.Checks.{keeps_decides}
use Rattle.outline.specs.declared.Bounds.{Bounds}
use Rattle.outline.specs.Vertex.{Lent, BoundsOf}
use Rattle.checks.proofs.Bounded.{lent_of}
use Rattle.cells.specs.Put.{PutRuns}
use Rattle.cover.specs.Turn.{turn_no}
use Rattle.cover.proofs.Answers.{passed, outline_by_turn, some_without, none_without}
use Rattle.tables.specs.Flat.{Laid, table_of}
use Rattle.tables.specs.Piece.{Stands}
use Rattle.walk.specs.Free.{Frame}
use Rattle.walk.proofs.Searches.{frame_of, free_is}
use Rattle.best.proofs.Turns.{stands}
use Rattle.spot.specs.Spot.{FitsThere}
use Rattle.position.specs.Table.{Tabled, Enterable, EntersAt}
use Rattle.commiton.specs.Commits.{TurnPasses, placed_at, CommittedOn}

module _ (W R N g Q : ℕ) (held : List (List Rows)) (o : List ℕ) (p : Position) (words : ℕ) where
  abbrev count : ℕ
  count = count_runs (piece_runs o p.turn R g)

  -- a "no" to one of 7 to 10
  pub to_ten : {n : ℕ} → n ≡ turn_no o p.turn → 0 < n → Err (refusal n 1) ≡ commit_on W R N g Q held o p words
  unfolding commit_on
  to_ten {n} e h = rw (outline_by_turn o p.turn R g words, ← e, pos_not_zero n h, pos_not_zero n h) refl

  module _ (none : 0 ≡ turn_no o p.turn) (Rpos : 1 ≤ R) where
    pub eleven : count ≡ 0 → Err (refusal 11 1) ≡ commit_on W R N g Q held o p words
    unfolding commit_on
    eleven z = rw (outline_by_turn o p.turn R g words, ← none, none_without o p.turn R g none Rpos z) refl

    module _ (some : 0 < count) where
      -- the test of 11, which is asked without the gap
      passes_11 : ltb 0 (count_runs (piece_runs o p.turn R 0)) ≡ true
      passes_11 = lt-ltb 0 (count_runs (piece_runs o p.turn R 0)) ((some_without o p.turn R g none Rpos).0 some)

      pub twelve : words < 3 * count → Err (refusal 12 1) ≡ commit_on W R N g Q held o p words
      unfolding commit_on
      twelve l =
          rw (
            outline_by_turn o p.turn R g words,
            ← none,
            passes_11,
            room_one o R g words p.turn (passed o p.turn none).nine,
            lt-leb (3 * count) words l,
          ) refl

      module _ (room : 3 * count ≤ words) where
        pub eighteen : q18b W R N g held o p ≡ false → Err (refusal 18 0) ≡ commit_on W R N g Q held o p words
        unfolding commit_on
        eighteen e =
            rw (
              outline_by_turn o p.turn R g words,
              ← none,
              passes_11,
              room_one o R g words p.turn (passed o p.turn none).nine,
              le-leb (3 * count) words room,
              e,
            ) refl

        pub fourteen : q18b W R N g held o p ≡ true →
            (ask (q14b W R g Q held o p) (Err (refusal 14 1)) λ _. (Ok tt)) ≡ commit_on W R N g Q held o p words
        unfolding commit_on
        fourteen e =
            rw (
              outline_by_turn o p.turn R g words,
              ← none,
              passes_11,
              room_one o R g words p.turn (passed o p.turn none).nine,
              le-leb (3 * count) words room,
              e,
            ) refl

-- 18, as it was tried
pub fits_is : {f l h r : List ℕ} {W N n k wide tall : ℕ} {a : Bool} (R g : ℕ) (o : List ℕ) (p : Position) → g ≤ 400 → Laid f l h W N n →
    Stands (piece_runs o p.turn R g) r k → wide ≡ columns_for (extent_x o p.turn) R → tall ≡ extent_y o p.turn →
    FitsThere f l h r N W k wide tall p.column p.height a → a ≡ q18b W R N g (table_of f l h N) o p
unfolding q18b end_column top
fits_is {f} {l} {h} {r} {W} {N} {a = a} R g o p small laid stood ew et t =
    let there = rw (ew, et) at t.is in
    let free = free_is o p.turn R g small laid stood p.column p.height in
    let both =
    and_decides (and_decides (leb_decides (p.column + columns_for (extent_x o p.turn) R) N) (leb_decides (p.height + extent_y o p.turn) W))
    (self (freeb p.height (piece_runs o p.turn R g) (drop_n p.column (table_of f l h N)))) in
    same_test a _
    (λ e. let q = there.0 e in both.1 ((q.0, q.1), (free q.0).0 q.2))
    (λ e. let q = both.0 e in there.1 (q.0.0, q.0.1, (free q.0.0).1 q.1))
  where
    self : (b : Bool) → Decides b (b ≡ true)
    self b = (λ e. e, λ e. e)

-- what 7 to 10 give
module _ {o : List ℕ} {t : ℕ} (y : TurnPasses o t) where
  pub lent : Lent o
  lent = let z = passed o t y.none_no in lent_of o z.seven z.eight

  pub turn_most : t ≤ 3
  turn_most = (passed o t y.none_no).nine

  pub keeps : KeepsOrder (turned o t)
  keeps = (keeps_decides o t).0 (passed o t y.none_no).ten

-- a refusal leaves no next table
pub refused_on : {f l h f' l' h' o : List ℕ} {W R N g Q words number ordinal : ℕ} {p : Position} {a : Result Position Refusal} →
    a ≡ Err (refusal number ordinal) → Err (refusal number ordinal) ≡ commit_on W R N g Q (table_of f l h N) o p words →
    CommittedOn f l h f' l' h' o W R N g Q p words a
refused_on {p = p} e q = rw e (record { answer = ap (placed_at p) q; next = tt })

module _ {f l h o work work' : List ℕ} {W R N g n k w wide tall : ℕ} {b : Bounds} (p : Position) (small : g ≤ 400)
    (laid : Laid f l h W N n) (none : TurnPasses o p.turn) (bounds : BoundsOf o b)
    (put : PutRuns o p.turn R g work work' k) (room : k ≤ length work' / 3) (across : w ≡ extent_x o p.turn)
    (columns : wide ≡ columns_for w R) (up : tall ≡ extent_y o p.turn) where
  wide_is : wide ≡ columns_for (extent_x o p.turn) R
  wide_is = columns ∙ ap (λ (x : ℕ). columns_for x R) across

  pub frame : Frame f l h work' N W k wide tall
  frame = rw (wide_is, up) (frame_of o p.turn R g small laid (stands put room))

  module _ {a : Bool} (there : FitsThere f l h work' N W k wide tall p.column p.height a) where
    pub tested : a ≡ q18b W R N g (table_of f l h N) o p
    tested = fits_is R g o p small laid (stands put room) wide_is up there

    pub enterable : a ≡ true → {words : ℕ} → words ≡ length work' → Enterable f l h o W R N g b words p
    enterable e q =
        let on = there.is.0 e in
        record {
          lent = lent none;
          bounds = bounds;
          turn = turn_most none;
          keeps = keeps none;
          on_strip = record { columns = omega (arith, on.0, wide_is); rows = omega (arith, on.1, up) };
          room = omega (arith, put.count);
        }

-- what question 14 says, in both forms
asked_at : (p : Position) (b : Bool) →
    (ask b (Err (refusal 14 1)) λ _. Ok p) ≡ placed_at p (ask b (Err (refusal 14 1)) λ _. (Ok tt))
asked_at p true = refl
asked_at p false = refl

pub entered_on : {f l h f' l' h' o : List ℕ} {W R N g Q words : ℕ} {p : Position} {a : Result Position Refusal} →
    EntersAt f l h f' l' h' o W R N g Q p a →
    (ask (q14b W R g Q (table_of f l h N) o p) (Err (refusal 14 1)) λ _. (Ok tt)) ≡ commit_on W R N g Q (table_of f l h N) o p words →
    CommittedOn f l h f' l' h' o W R N g Q p words a
entered_on {f} {l} {h} {o = o} {W} {R} {N} {g} {Q} {p = p} enters q =
    record {
      answer = enters.answer ∙ asked_at p (q14b W R g Q (table_of f l h N) o p) ∙ ap (placed_at p) q;
      next = enters.next;
    }
