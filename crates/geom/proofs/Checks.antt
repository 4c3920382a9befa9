-- The tests of questions 10, 11 and 12 decide those questions, and with those of 7 to 9 they decide 7 to 12 of one lent outline.
-- No edge spans a unit column past the extent; a turn's computed runs are the runs of its cells; the most runs are those of one turn.
-- Assumes nothing.
use mathlib.Core.Path.{◌≡◌, refl, sym, subst}
use mathlib.Core.Logic.Iff
use mathlib.Core.Logic.{◌↔◌, ⊎_elim}
use mathlib.Core.Bool.{Bool, true, false, cond, and-false, false≢true}
use mathlib.Core.List.{List, []}
use Prim.Native.Nat.{ℕ, zero, suc, ◌*◌, ◌/◌, ◌≤◌, ◌<◌, max}
use native.Mathlib.Omega.{arith}
use lib.ListN.{get_or}
use borrow.Author.Tests.{le-ltb, ltb-true}
use Rattle.defs.specs.Meaning.Outline.{vx, sides, edge_at, change_order, Ordered, KeepsOrder}
use Rattle.defs.specs.Meaning.Turn.{turned, greatest, extent_x, Allows}
use Rattle.defs.specs.Meaning.Cell.{Covered, AtMostRuns}
use Rattle.defs.specs.Meaning.Placing.{cells_in}
use Rattle.defs.specs.Meaning.Question.{Question7, Question10, Question11, Question12, Asked7to12}
use Rattle.defs.specs.Computing.Test.{ask}
use Rattle.defs.specs.Computing.Cells.{in_rows, keeps_orderb, piece_runs, count_runs, allowedb, ordersb, most_runs}
use Rattle.defs.specs.Computing.Calls.{q7b, q8b, q9b, q11b, q12b, outline_no}
use Rattle.laws.proofs.Tests.{Decides, all_to_decides, decides_by, false_decides, implies_decides, leb_decides, ltb_decides}
use Rattle.laws.proofs.Questions.{question_7, question_8, question_9, allowed}
use Rattle.geom.proofs.Strip.{lt_or_le}
use Rattle.geom.proofs.Column.{and_last}
use Rattle.geom.proofs.Extent.{edge_bounded, sides_turned}
use Rattle.geom.proofs.Windows.{covered_gap, gap_point}
use Rattle.geom.proofs.PieceCells.{piece_cells, runs_apart, no_columns}
use Rattle.geom.proofs.Counting.{runs_counted, some_counted}

-- question 10

ordered_decides : (v : List ℕ) (w : ℕ) → Decides (keeps_orderb v w) ((k : ℕ) → k < w → Ordered v k)
unfolding keeps_orderb Ordered
ordered_decides v w =
    all_to_decides _ w (Ordered v)
    (λ k _.
    decides_by
    (λ (f : (i : ℕ) → i < sides v → (j : ℕ) → j < sides v → change_order k (edge_at v i) (edge_at v j) ≡ false) i j li lj. f i li j lj)
    (λ f i li j lj. f i j li lj)
    (all_to_decides _ (sides v) _ (λ i _. all_to_decides _ (sides v) _ (λ j _. false_decides _))))

-- no edge spans a unit column past the greatest x
past_ordered : (v : List ℕ) (k : ℕ) → greatest (vx v) (sides v) ≤ k → Ordered v k
unfolding Ordered change_order
past_ordered v k past i j li lj =
    rw (le-ltb k (edge_at v i).xr (omega (arith, (edge_bounded v i li).right)), and-false)

-- so the test over the extent's columns is enough
pub keeps_decides : (o : List ℕ) (t : ℕ) → Decides (keeps_orderb (turned o t) (extent_x o t)) (KeepsOrder (turned o t))
unfolding KeepsOrder extent_x
keeps_decides o t =
    decides_by
    (λ f k.
    ⊎_elim (f k) (λ l. past_ordered (turned o t) k (subst (λ (n : ℕ). greatest (vx (turned o t)) n ≤ k) (sym (sides_turned o t)) l))
    (lt_or_le k (greatest (vx (turned o t)) (sides o))))
    (λ h k l. h k) (ordered_decides (turned o t) (greatest (vx (turned o t)) (sides o)))

pub question_10 : (o : List ℕ) (mask : ℕ) → Decides (ordersb o mask) (Question10 o mask)
unfolding ordersb Question10
question_10 o mask =
    decides_by (λ f t a. f t (omega (arith, a.turn)) a) (λ q t l. q t)
    (all_to_decides _ 4 (λ t. Allows mask t → KeepsOrder (turned o t))
    (λ t l. implies_decides (allowed mask t (omega arith)) (keeps_decides o t)))

-- questions 11 and 12

-- an allowed turn with at least n runs
record Turn (o : List ℕ) (mask R g n : ℕ) : Type 0 where
  turn : ℕ
  allows : Allows mask turn
  runs : n ≤ count_runs (piece_runs o turn R g)

-- The most runs of the allowed turns are no fewer than those of each of them, and no more than those of one of them.
module _ (o : List ℕ) (mask R g : ℕ) where
  most_of_all : (m t : ℕ) → t < m → Allows mask t → count_runs (piece_runs o t R g) ≤ most_runs o mask R g m
  unfolding most_runs
  most_of_all zero t l a = absurd (omega arith)
  most_of_all (suc m) t l a =
      and_last m
      (λ t.
      Allows mask t → count_runs (piece_runs o t R g) ≤
      max (most_runs o mask R g m) (cond (allowedb mask m) (count_runs (piece_runs o m R g)) 0))
      (λ t l a. omega (arith, most_of_all m t l a)) (λ a. rw ((allowed mask m a.turn).1 a) (omega arith)) t l a

  most_of_one : (m : ℕ) → m ≤ 4 → 0 < most_runs o mask R g m → Turn o mask R g (most_runs o mask R g m)
  unfolding most_runs
  most_of_one zero h l = absurd (omega arith)
  most_of_one (suc m) h l = go (allowedb mask m) refl l (most_of_one m (omega arith))
    where
      go : (b : Bool) → allowedb mask m ≡ b → 0 < max (most_runs o mask R g m) (cond b (count_runs (piece_runs o m R g)) 0) →
          (0 < most_runs o mask R g m → Turn o mask R g (most_runs o mask R g m)) →
          Turn o mask R g (max (most_runs o mask R g m) (cond b (count_runs (piece_runs o m R g)) 0))
      go true e l k =
          ⊎_elim (λ g. let t = k (omega arith) in record { turn = t.turn; allows = t.allows; runs = omega arith })
          (λ g. record { turn = m; allows = (allowed mask m (omega arith)).0 e; runs = omega arith })
          (lt_or_le (count_runs (piece_runs o m R g)) (most_runs o mask R g m))
      go false e l k = let t = k (omega arith) in record { turn = t.turn; allows = t.allows; runs = omega arith }

-- The runs of one turn are the runs of its cells.
module _ (o : List ℕ) (t R g : ℕ) (keeps : KeepsOrder (turned o t)) (some_side : 0 < sides o) (Rpos : 1 ≤ R) where
  same_cells : (i j : ℕ) → cells_in R g o t i j ↔ (in_rows (get_or (piece_runs o t R g) i []) j ≡ true)
  same_cells i j = Iff.symm (piece_cells o t R g keeps some_side Rpos i j)

  pub runs_of_turn : (n : ℕ) → (count_runs (piece_runs o t R g) ≤ n) ↔ AtMostRuns (cells_in R g o t) n
  runs_of_turn = runs_counted (cells_in R g o t) (piece_runs o t R g) (runs_apart o t R g) same_cells

  pub cell_of_turn : (0 < count_runs (piece_runs o t R g)) ↔ ((i : ℕ) × (j : ℕ) × cells_in R g o t i j)
  cell_of_turn = some_counted (cells_in R g o t) (piece_runs o t R g) (runs_apart o t R g) same_cells

-- A turn has a run, with any gap, exactly when it has a cell that holds a point inside.
module _ (o : List ℕ) (t R : ℕ) (keeps : KeepsOrder (turned o t)) (some_side : 0 < sides o) (Rpos : 1 ≤ R) where
  pub some_run : (g : ℕ) → (0 < count_runs (piece_runs o t R g)) ↔ ((i : ℕ) × (j : ℕ) × Covered (turned o t) R i j)
  some_run g = (
    λ l. let c = (cell_of_turn o t R g keeps some_side Rpos).0 l in
        let p = gap_point (turned o t) R g c.0 c.1 Rpos c.2 in
        (c.2.there.column / R, c.2.there.row, p),
    λ c. (cell_of_turn o t R g keeps some_side Rpos).1 (c.0, c.1, covered_gap (turned o t) R g c.0 c.1 c.2),
  )

  pub same_run : (g h : ℕ) → (0 < count_runs (piece_runs o t R g)) ↔ (0 < count_runs (piece_runs o t R h))
  same_run g h = Iff.trans (some_run g) (Iff.symm (some_run h))

module _ (o : List ℕ) (mask R : ℕ) (keeps : Question10 o mask) (some_side : 0 < sides o) (Rpos : 1 ≤ R) where
  -- some allowed turn has a run
  most_some : (g : ℕ) → (0 < most_runs o mask R g 4) ↔ Question11 o mask R
  unfolding Question10
  most_some g = (forth, back)
    where
      forth : 0 < most_runs o mask R g 4 → Question11 o mask R
      forth l =
          let t = most_of_one o mask R g 4 (omega arith) l in
          let c = (some_run o t.turn R (keeps t.turn t.allows) some_side Rpos g).0 (omega (arith, t.runs)) in
          record { turn = t.turn; column = c.0; row = c.1; allowed = t.allows; covered = c.2 }

      back : Question11 o mask R → 0 < most_runs o mask R g 4
      back q =
          let here = (some_run o q.turn R (keeps q.turn q.allowed) some_side Rpos g).1 (q.column, q.row, q.covered) in
          omega (arith, most_of_all o mask R g 4 q.turn (omega arith) q.allowed)

  -- so the answer to question 11 is the same with any gap
  pub question_11 : Decides (q11b o mask R) (Question11 o mask R)
  unfolding q11b
  question_11 = Iff.trans (ltb_decides 0 (most_runs o mask R 0 4)) (most_some 0)

  pub most_same : (g : ℕ) → (0 < most_runs o mask R g 4) ↔ (q11b o mask R ≡ true)
  most_same g = Iff.trans (most_some g) (Iff.symm question_11)

  -- three words for each run: the runs are at most a third of the words
  pub question_12 : (g words : ℕ) → Decides (q12b o mask R g words) (Question12 o mask R g words)
  unfolding q12b Question10 Question12
  question_12 g words = decides_by forth back (leb_decides (3 * most_runs o mask R g 4) words)
    where
      third : (t : ℕ) → Allows mask t → (count_runs (piece_runs o t R g) ≤ words / 3) ↔ AtMostRuns (cells_in R g o t) (words / 3)
      third t a = runs_of_turn o t R g (keeps t a) some_side Rpos (words / 3)

      forth : 3 * most_runs o mask R g 4 ≤ words → (t : ℕ) → Allows mask t → AtMostRuns (cells_in R g o t) (words / 3)
      forth l t a = (third t a).0 (omega (arith, most_of_all o mask R g 4 t (omega arith) a))

      back : ((t : ℕ) → Allows mask t → AtMostRuns (cells_in R g o t) (words / 3)) → 3 * most_runs o mask R g 4 ≤ words
      back q =
          ⊎_elim
          (λ l.
          let t = most_of_one o mask R g 4 (omega arith) l in
          omega (arith, t.runs, (third t.turn t.allows).1 (q t.turn t.allows)))
          (λ l. omega arith) (lt_or_le 0 (most_runs o mask R g 4))

-- questions 7 to 12 of one lent outline

-- 7 to 12 computed, as "none gets no"
pub record Passes (o : List ℕ) (mask R g words : ℕ) : Type 0 where
  pub none_no : outline_no o (q9b mask) mask R ≡ 0
  pub room : q12b o mask R g words ≡ true

ask_none : (b : Bool) (n : ℕ) (rest : Unit {0} → ℕ) → (ask b (suc n) rest ≡ 0) ↔ ((b ≡ true) × (rest tt ≡ 0))
ask_none true n rest = (λ e. (refl, e), λ h. h.1)
ask_none false n rest = (λ e. absurd (omega arith), λ h. absurd (false≢true h.0))

-- none of 7 to 11 gets "no" where each test is true
pub none_no_is : (o : List ℕ) (ninth : Bool) (mask R : ℕ) →
    (outline_no o ninth mask R ≡ 0) ↔
    ((q7b o ≡ true) × (q8b o ≡ true) × (ninth ≡ true) × (ordersb o mask ≡ true) × (q11b o mask R ≡ true))
unfolding outline_no
none_no_is o ninth mask R = (
  λ e.
      let a = (ask_none (q7b o) 6 _).0 e in
      let b = (ask_none (q8b o) 7 _).0 a.1 in
      let c = (ask_none ninth 8 _).0 b.1 in
      let d = (ask_none (ordersb o mask) 9 _).0 c.1 in
      (a.0, b.0, c.0, d.0, ((ask_none (q11b o mask R) 10 _).0 d.1).0),
  λ h. rw (h.0, h.1, h.2, h.3, h.4),
)

pub has_side : (o : List ℕ) → Question7 o → 0 < sides o
has_side o q = omega (arith, q.words.at_least)

pub checks : (o : List ℕ) (mask R g words : ℕ) → 1 ≤ R → Passes o mask R g words ↔ Asked7to12 o mask R g words
checks o mask R g words Rpos = (
  λ c.
      let e = (none_no_is o (q9b mask) mask R).0 c.none_no in
      let q7 = (question_7 o).0 e.0 in
      let q10 = (question_10 o mask).0 e.3 in
      record {
        q7 = q7;
        q8 = (question_8 o).0 e.1;
        q9 = (question_9 mask).0 e.2;
        q10 = q10;
        q11 = (question_11 o mask R q10 (has_side o q7) Rpos).0 e.4;
        q12 = (question_12 o mask R q10 (has_side o q7) Rpos g words).0 c.room;
      },
  λ a.
      record {
        none_no =
            (none_no_is o (q9b mask) mask R).1 (
              (question_7 o).1 a.q7,
              (question_8 o).1 a.q8,
              (question_9 mask).1 a.q9,
              (question_10 o mask).1 a.q10,
              (question_11 o mask R a.q10 (has_side o a.q7) Rpos).1 a.q11,
            );
        room = (question_12 o mask R a.q10 (has_side o a.q7) Rpos g words).1 a.q12;
      },
)

-- with R = 0 no turn has a column, so 11 gets "no"
pub passes_resolution : (o : List ℕ) (mask R g words : ℕ) → Passes o mask R g words → 1 ≤ R
unfolding q11b
passes_resolution o mask zero g words c =
    let l = ltb-true 0 (most_runs o mask 0 0 4) ((none_no_is o (q9b mask) mask 0).0 c.none_no).4 in
    let t = most_of_one o mask 0 0 4 (omega arith) l in
    omega (arith, t.runs, no_columns o t.turn 0)
passes_resolution o mask (suc R) g words c = omega arith
