-- What place answers on a strip that holds the cells C, whichever they are, for any outline, mask and work buffer. An ask answers the
-- same.
-- Assumes nothing.
use mathlib.Core.Path.{◌≡◌, refl, sym, ap, subst, ◌∙◌}
use mathlib.Core.Logic.{◌↔◌, ◌≢◌}
use mathlib.Core.Bool.{Bool, true, false, false≢true, true≢false}
use mathlib.Core.List.{List}
use Prim.Native.Nat.{ℕ}
use native.Mathlib.Omega.{arith}
use Rattle.std.specs.Prelude.{Some, None, Result, Ok, Err}
use Rattle.defs.specs.declared.Position.{Position}
use Rattle.defs.specs.declared.Refusal.{Refusal}
use Rattle.defs.specs.Answer.{number_of}
use Rattle.defs.specs.Meaning.Cell.{Cells}
use Rattle.defs.specs.Meaning.Placing.{Best}
use Rattle.defs.specs.Meaning.Question.{AskedBefore13, Question5, Question13, Question14}
use Rattle.defs.specs.Computing.Cells.{Rows}
use Rattle.defs.specs.Computing.Words.{records_of, columns_runs}
use Rattle.defs.specs.Computing.Search.{best_below}
use Rattle.defs.specs.Computing.Calls.{place_answer, q9b, q14b}
use Rattle.laws.proofs.Granted.{no_grant, same_grant}
use Rattle.geom.proofs.Checks.{Passes, checks}
use Rattle.tables.proofs.Tables.{In}
use Rattle.tables.proofs.Sets.{Same, same_sym, best_same, q13_same, q14_same}
use Rattle.claims.proofs.Refusals.{outline_not_5, outline_most}
use Rattle.claims.proofs.Invariant.{Kept}
use Rattle.claims.proofs.Fates.{Fate, early, short, no_place, full, placed}
use Rattle.claims.proofs.Passing.{asked, best_found, none_found, question_14}
use Rattle.claims.proofs.KeptStrip.{table, resolution_least, strip_formed, place_fate}

-- what each fate says
module _ (W R N g Q : ℕ) (held : List (List Rows)) (o : List ℕ) (mask words : ℕ) where
  pub record Found (p : Position) : Type 0 where
    pub passes : Passes o mask R g words
    pub best : best_below W R N g held o mask 4 ≡ Some p
    pub room : q14b W R g Q held o p ≡ true

  pub found : (a : Result Position Refusal) (p : Position) → Fate W R N g Q held o mask words a → a ≡ Ok p → Found p
  found a p (early n e) q = absurd (no_grant q)
  found a p (short e7 e12) q = absurd (no_grant q)
  found a p (no_place e7 e12 e13) q = absurd (no_grant q)
  found a p (full e7 e12 p' e13 e14) q = absurd (no_grant q)
  found a p (placed e7 e12 p' e13 e14) q =
      subst Found (same_grant q) (record { passes = record { none_no = e7; room = e12 }; best = e13; room = e14 })

  none_if_13 : (a : Result Position Refusal) → Fate W R N g Q held o mask words a → number_of a ≡ 13 →
      Passes o mask R g words × (best_below W R N g held o mask 4 ≡ None)
  none_if_13 a (early n e) q = absurd (omega (arith, e, outline_most o (q9b mask) mask R))
  none_if_13 a (short e7 e12) q = absurd (omega arith)
  none_if_13 a (no_place e7 e12 e13) q = (record { none_no = e7; room = e12 }, e13)
  none_if_13 a (full e7 e12 p e13 e14) q = absurd (omega arith)
  none_if_13 a (placed e7 e12 p e13 e14) q = absurd (omega arith)

  13_if_none : (a : Result Position Refusal) → Fate W R N g Q held o mask words a → Passes o mask R g words →
      ((p : Position) → best_below W R N g held o mask 4 ≡ Some p → ⊥) → number_of a ≡ 13
  13_if_none a (early n e) c nope = absurd (omega (arith, sym c.none_no ∙ e))
  13_if_none a (short e7 e12) c nope = absurd (false≢true (sym e12 ∙ c.room))
  13_if_none a (no_place e7 e12 e13) c nope = refl
  13_if_none a (full e7 e12 p e13 e14) c nope = absurd (nope p e13)
  13_if_none a (placed e7 e12 p e13 e14) c nope = absurd (nope p e13)

  not_5 : (a : Result Position Refusal) → Fate W R N g Q held o mask words a → number_of a ≢ 5
  not_5 a (early n e) = λ q. outline_not_5 o (q9b mask) mask R (e ∙ q)
  not_5 a (short e7 e12) = omega arith
  not_5 a (no_place e7 e12 e13) = omega arith
  not_5 a (full e7 e12 p e13 e14) = omega arith
  not_5 a (placed e7 e12 p e13 e14) = omega arith

  placed_if_all : (a : Result Position Refusal) → Fate W R N g Q held o mask words a → Passes o mask R g words →
      (best_below W R N g held o mask 4 ≡ None → ⊥) →
      ((p : Position) → best_below W R N g held o mask 4 ≡ Some p → q14b W R g Q held o p ≡ true) →
      (p : Position) × (a ≡ Ok p)
  placed_if_all a (early n e) c some_one room = absurd (omega (arith, sym c.none_no ∙ e))
  placed_if_all a (short e7 e12) c some_one room = absurd (false≢true (sym e12 ∙ c.room))
  placed_if_all a (no_place e7 e12 e13) c some_one room = absurd (some_one e13)
  placed_if_all a (full e7 e12 p e13 e14) c some_one room = absurd (false≢true (sym e14 ∙ room p e13))
  placed_if_all a (placed e7 e12 p e13 e14) c some_one room = (p, refl)

module _ {W R N g words : ℕ} {s : List ℕ} (k : Kept W R N g words s) (o : List ℕ) (mask n : ℕ) where
  abbrev Q : ℕ
  Q = records_of N words

  abbrev held : List (List Rows)
  held = columns_runs s

  abbrev answer : Result Position Refusal
  answer = place_answer s o mask n

  fate : Fate W R N g Q held o mask n answer
  fate = place_fate k o mask n

  pub found_there : (p : Position) → answer ≡ Ok p → Found W R N g Q held o mask n p
  found_there p e = found W R N g Q held o mask n answer p fate e

  pub best_there : (p : Position) → answer ≡ Ok p → Best W R N g (In held) o mask p
  best_there p e =
      let f = found_there p e in
      best_found o mask R g n f.passes W N held (table k) p f.best

  passed : Passes o mask R g n → AskedBefore13 s o mask R g n
  unfolding Question5
  passed c = record { q5 = (Q, strip_formed k); q7to12 = asked o mask R g n c }

  passes : AskedBefore13 s o mask R g n → Passes o mask R g n
  passes a = (checks o mask R g n (resolution_least k)).1 a.q7to12

  pub place_not_5 : number_of answer ≢ 5
  place_not_5 = not_5 W R N g Q held o mask n answer fate

  -- the cells that the strip holds
  module _ (C : Cells) (same : Same (In held) C) where
    pub place_best : (p : Position) → answer ≡ Ok p → Best W R N g C o mask p
    place_best p e = best_same _ _ same W R N g o mask p (best_there p e)

    found_fits : Passes o mask R g n → (p : Position) → best_below W R N g held o mask 4 ≡ Some p → Best W R N g C o mask p
    found_fits c p e = best_same _ _ same W R N g o mask p (best_found o mask R g n c W N held (table k) p e)

    none_fits : Passes o mask R g n → best_below W R N g held o mask 4 ≡ None → ¬ Question13 W R N g C o mask
    none_fits c e q = none_found o mask R g n c W N held (table k) e (q13_same _ _ (same_sym same) W R N g o mask q)

    pub place_13 : (number_of answer ≡ 13) ↔ (AskedBefore13 s o mask R g n × ¬ Question13 W R N g C o mask)
    unfolding Question13
    place_13 = (
      λ e.
          let r = none_if_13 W R N g Q held o mask n answer fate e in
          (passed r.0, none_fits r.0 r.1),
      λ a.
          let c = passes a.0 in
          13_if_none W R N g Q held o mask n answer fate c (λ p e. a.1 (p, (found_fits c p e).fits)),
    )

    pub place_granted : AskedBefore13 s o mask R g n → Question13 W R N g C o mask →
        ((p : Position) → Best W R N g C o mask p → Question14 W R N g Q C o p) → (p : Position) × (answer ≡ Ok p)
    place_granted a f room =
        let c = passes a in
        placed_if_all W R N g Q held o mask n answer fate c (λ e. none_fits c e f)
        (λ p e.
        (question_14 o mask R g n c W N held (table k) Q p (best_found o mask R g n c W N held (table k) p e).fits).1
        (q14_same _ _ (same_sym same) W R N g Q o p (room p (found_fits c p e))))
