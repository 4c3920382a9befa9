-- What a commit answers on a strip that holds the cells C, whichever they are, for any outline, position and work buffer.
-- Assumes nothing.
use mathlib.Core.Path.{◌≡◌, refl, sym, ap, ◌∙◌}
use mathlib.Core.Logic.{◌↔◌, ◌≢◌}
use mathlib.Core.Bool.{Bool, true, false, false≢true}
use mathlib.Core.List.{List}
use Prim.Native.Nat.{ℕ, ◌^◌, ◌≤◌}
use native.Mathlib.Omega.{arith}
use lib.Dec.{leb}
use borrow.Author.Tests.{leb-true}
use Rattle.std.specs.Prelude.{Result, Ok, Err}
use Rattle.defs.specs.declared.Position.{Position}
use Rattle.defs.specs.declared.Refusal.{Refusal}
use Rattle.defs.specs.Answer.{number_of_commit}
use Rattle.defs.specs.Meaning.Limits.{most_turn}
use Rattle.defs.specs.Meaning.Outline.{KeepsOrder}
use Rattle.defs.specs.Meaning.Turn.{turned}
use Rattle.defs.specs.Meaning.Cell.{Cells}
use Rattle.defs.specs.Meaning.Question.{AskedBefore13, Question5, Question10, Question14, Question18}
use Rattle.defs.specs.Computing.Cells.{Rows}
use Rattle.defs.specs.Computing.Words.{records_of, columns_runs}
use Rattle.defs.specs.Computing.Calls.{q9b, q14b, q18b, outline_no, commit_answer}
use Rattle.laws.proofs.Tests.{Decides}
use Rattle.laws.proofs.Questions.{question_9}
use Rattle.laws.proofs.Granted.{no_grant}
use Rattle.geom.proofs.Checks.{Passes, checks}
use Rattle.turns.proofs.Alone.{allows_own, mask_of_turn}
use Rattle.tables.proofs.Tables.{In}
use Rattle.tables.proofs.FreeTest.{question_18}
use Rattle.tables.proofs.Records as records
use Rattle.tables.proofs.Sets.{Same, same_sym, q14_same, q18_same}
use Rattle.claims.proofs.Refusals.{outline_not_5, outline_most}
use Rattle.claims.proofs.Invariant.{Kept}
use Rattle.claims.proofs.CommitFates.{CommitFate, turn_no_lem, room, early, short, taken, full, entered}
use Rattle.claims.proofs.Passing.{asked, some_side}
use Rattle.claims.proofs.KeptStrip.{table, resolution_least, strip_formed, commit_fate_on}

-- questions 7 to 12 of the turn are those of its mask
module _ (o : List ℕ) (t R g n : ℕ) where
  alone : outline_no o (leb t most_turn) (2 ^ t) R ≡ outline_no o (q9b (2 ^ t)) (2 ^ t) R
  alone = ap (λ (b : Bool). outline_no o b (2 ^ t) R) (mask_of_turn t)

  module _ (c : Passes o (2 ^ t) R g n) where
    pub turn_most : t ≤ most_turn
    turn_most = leb-true t most_turn (mask_of_turn t ∙ (question_9 (2 ^ t)).1 (asked o (2 ^ t) R g n c).q9)

    pub turn_keeps : KeepsOrder (turned o t)
    unfolding Question10
    turn_keeps = (asked o (2 ^ t) R g n c).q10 t (allows_own t turn_most)

-- what each fate says
module _ (W R N g Q : ℕ) (held : List (List Rows)) (o : List ℕ) (p : Position) (n : ℕ) where
  abbrev Alone : Type 0
  Alone = Passes o (2 ^ p.turn) R g n

  abbrev Fate : Result Unit Refusal → Type 0
  Fate a = CommitFate W R N g Q held o p n a

  passing : turn_no_lem W R N g Q held o p n ≡ 0 → room W R N g Q held o p n ≡ true → Alone
  passing e7 e12 = record { none_no = sym (alone o p.turn R g n) ∙ e7; room = e12 }

  -- none of 7 to 11 gets "no", where the turn's mask passes
  pub none_early : Alone → turn_no_lem W R N g Q held o p n ≡ 0
  none_early c = alone o p.turn R g n ∙ c.none_no

  pub record Enters : Type 0 where
    pub passes : Alone
    pub free : q18b W R N g held o p ≡ true
    pub room : q14b W R g Q held o p ≡ true

  enters : (a : Result Unit Refusal) → Fate a → a ≡ Ok tt → Enters
  enters a (early m e) q = absurd (no_grant q)
  enters a (short e7 e12) q = absurd (no_grant q)
  enters a (taken e7 e12 e18) q = absurd (no_grant q)
  enters a (full e7 e12 e18 e14) q = absurd (no_grant q)
  enters a (entered e7 e12 e18 e14) q = record { passes = passing e7 e12; free = e18; room = e14 }

  taken_if_18 : (a : Result Unit Refusal) → Fate a → number_of_commit a ≡ 18 → Alone × (q18b W R N g held o p ≡ false)
  taken_if_18 a (early m e) q = absurd (omega (arith, e, outline_most o (leb p.turn most_turn) (2 ^ p.turn) R))
  taken_if_18 a (short e7 e12) q = absurd (omega arith)
  taken_if_18 a (taken e7 e12 e18) q = (passing e7 e12, e18)
  taken_if_18 a (full e7 e12 e18 e14) q = absurd (omega arith)
  taken_if_18 a (entered e7 e12 e18 e14) q = absurd (omega arith)

  18_if_taken : (a : Result Unit Refusal) → Fate a → Alone → (q18b W R N g held o p ≡ true → ⊥) → number_of_commit a ≡ 18
  18_if_taken a (early m e) c nope = absurd (omega (arith, sym (none_early c) ∙ e))
  18_if_taken a (short e7 e12) c nope = absurd (false≢true (sym e12 ∙ c.room))
  18_if_taken a (taken e7 e12 e18) c nope = refl
  18_if_taken a (full e7 e12 e18 e14) c nope = absurd (nope e18)
  18_if_taken a (entered e7 e12 e18 e14) c nope = absurd (nope e18)

  not_13 : (a : Result Unit Refusal) → Fate a → number_of_commit a ≢ 13
  not_13 a (early m e) = omega (arith, e, outline_most o (leb p.turn most_turn) (2 ^ p.turn) R)
  not_13 a (short e7 e12) = omega arith
  not_13 a (taken e7 e12 e18) = omega arith
  not_13 a (full e7 e12 e18 e14) = omega arith
  not_13 a (entered e7 e12 e18 e14) = omega arith

  not_5 : (a : Result Unit Refusal) → Fate a → number_of_commit a ≢ 5
  not_5 a (early m e) = λ q. outline_not_5 o (leb p.turn most_turn) (2 ^ p.turn) R (e ∙ q)
  not_5 a (short e7 e12) = omega arith
  not_5 a (taken e7 e12 e18) = omega arith
  not_5 a (full e7 e12 e18 e14) = omega arith
  not_5 a (entered e7 e12 e18 e14) = omega arith

  committed_if_all : (a : Result Unit Refusal) → Fate a → Alone → q18b W R N g held o p ≡ true → q14b W R g Q held o p ≡ true → a ≡ Ok tt
  committed_if_all a (early m e) c f r = absurd (omega (arith, sym (none_early c) ∙ e))
  committed_if_all a (short e7 e12) c f r = absurd (false≢true (sym e12 ∙ c.room))
  committed_if_all a (taken e7 e12 e18) c f r = absurd (false≢true (sym e18 ∙ f))
  committed_if_all a (full e7 e12 e18 e14) c f r = absurd (false≢true (sym e14 ∙ r))
  committed_if_all a (entered e7 e12 e18 e14) c f r = refl

module _ {W R N g words : ℕ} {s : List ℕ} (k : Kept W R N g words s) (o : List ℕ) (p : Position) (n : ℕ) where
  abbrev Q : ℕ
  Q = records_of N words

  abbrev held : List (List Rows)
  held = columns_runs s

  abbrev answer : Result Unit Refusal
  answer = commit_answer s o p n

  fate : CommitFate W R N g Q held o p n answer
  fate = commit_fate_on k o p n

  passed : Passes o (2 ^ p.turn) R g n → AskedBefore13 s o (2 ^ p.turn) R g n
  unfolding Question5
  passed c = record { q5 = (Q, strip_formed k); q7to12 = asked o (2 ^ p.turn) R g n c }

  passes : AskedBefore13 s o (2 ^ p.turn) R g n → Passes o (2 ^ p.turn) R g n
  passes a = (checks o (2 ^ p.turn) R g n (resolution_least k)).1 a.q7to12

  pub free_there : Passes o (2 ^ p.turn) R g n → Decides (q18b W R N g held o p) (Question18 W R N g (In held) o p)
  free_there c =
      question_18 W R N g held o p (turn_keeps o p.turn R g n c) (some_side o (2 ^ p.turn) R g n c) (resolution_least k) (table k)

  pub enters_there : answer ≡ Ok tt → Enters W R N g Q held o p n
  enters_there e = enters W R N g Q held o p n answer fate e

  pub commit_turn : answer ≡ Ok tt → p.turn ≤ most_turn
  commit_turn e = turn_most o p.turn R g n (enters_there e).passes

  pub commit_not_5 : number_of_commit answer ≢ 5
  commit_not_5 = not_5 W R N g Q held o p n answer fate

  pub commit_not_13 : number_of_commit answer ≢ 13
  commit_not_13 = not_13 W R N g Q held o p n answer fate

  -- what passes the tests is committed
  pub commit_tested : Passes o (2 ^ p.turn) R g n → q18b W R N g held o p ≡ true → q14b W R g Q held o p ≡ true → answer ≡ Ok tt
  commit_tested c f r = committed_if_all W R N g Q held o p n answer fate c f r

  -- the cells that the strip holds
  module _ (C : Cells) (same : Same (In held) C) where
    pub commit_fits : answer ≡ Ok tt → Question18 W R N g C o p
    commit_fits e =
        let f = enters_there e in
        q18_same _ _ same W R N g o p ((free_there f.passes).0 f.free)

    pub commit_is_18 : (number_of_commit answer ≡ 18) ↔ (AskedBefore13 s o (2 ^ p.turn) R g n × ¬ Question18 W R N g C o p)
    commit_is_18 = (
      λ e.
          let r = taken_if_18 W R N g Q held o p n answer fate e in
          (passed r.0, λ q. false≢true (sym r.1 ∙ (free_there r.0).1 (q18_same _ _ (same_sym same) W R N g o p q))),
      λ a.
          let c = passes a.0 in
          18_if_taken W R N g Q held o p n answer fate c (λ e. a.1 (q18_same _ _ same W R N g o p ((free_there c).0 e))),
    )

    pub commit_granted : AskedBefore13 s o (2 ^ p.turn) R g n → Question18 W R N g C o p → Question14 W R N g Q C o p → answer ≡ Ok tt
    commit_granted a f r =
        let c = passes a in
        let f' = q18_same _ _ (same_sym same) W R N g o p f in
        commit_tested c ((free_there c).1 f')
        ((records.question_14 W R N g Q held o p (turn_keeps o p.turn R g n c) (some_side o (2 ^ p.turn) R g n c) (resolution_least k)
        (table k)).1 (q14_same _ _ (same_sym same) W R N g Q o p r))
