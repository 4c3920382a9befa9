-- The answer of the table in its two forms, a strip that is not well formed, and the strip that is left. Assumes nothing.
use mathlib.Core.Path.{◌≡◌, refl, sym, subst}
use mathlib.Core.Bool.{false}
use mathlib.Core.List.{List}
use Prim.Native.Nat.{ℕ}
use native.Mathlib.Omega.{arith}
use lib.ListN.{length}
use Rattle.std.specs.Prelude.{Result, Ok, Err}
use Rattle.defs.specs.declared.Refusal.{Refusal}
use Rattle.defs.specs.declared.Position.{Position}
use Rattle.defs.specs.declared.PlacingTries.{PlacingTries}
use Rattle.defs.specs.Meaning.Strip.{width_of, resolution_of, columns_of, gap_of}
use Rattle.defs.specs.Computing.Words.{well_formedb, records_of, written}
use Rattle.defs.specs.Computing.Calls.{refusal, place_answer, place_tries, commit_answer, PlaceLeaves}
use Rattle.laws.proofs.Granted.{no_grant}
use Rattle.tables.specs.Flat.{table_of}
use Rattle.search.specs.declared.Way.TheVariants.{Walk}
use Rattle.position.specs.Table.{CountedOn}
use Rattle.commiton.specs.Commits.{CommittedOn}
use Rattle.wanted.specs.declared.Wanted.{Wanted}
use Rattle.wanted.specs.declared.Wanted.TheVariants.{Best, At}
use Rattle.wanted.specs.Answers.{answer_on, answer_to, count_on, count_to, OnTable, Looked, Put}

module _ {f l h f' l' h' o : List ℕ} {W R N g Q words : ℕ} {w : Wanted} {a : Result Position Refusal} where
  pub best : {mask n : ℕ} → w ≡ Best mask → CountedOn f l h f' l' h' o W R N g Q mask words Walk a n →
      OnTable f l h f' l' h' o W R N g Q w words a n
  unfolding answer_on count_on
  best {n = n} e x =
      subst (λ (v : Wanted). OnTable f l h f' l' h' o W R N g Q v words a n) (sym e)
      (record { answer = x.placed.answer; counted = x.counted; next = x.placed.next })

  pub at : {p : Position} → w ≡ At p → CommittedOn f l h f' l' h' o W R N g Q p words a → OnTable f l h f' l' h' o W R N g Q w words a 0
  unfolding answer_on count_on
  at e x =
      subst (λ (v : Wanted). OnTable f l h f' l' h' o W R N g Q v words a 0) (sym e)
      (record { answer = x.answer; counted = refl; next = x.next })

-- question 5
pub ill_refused : (w : Wanted) (s o : List ℕ) (words : ℕ) → well_formedb s ≡ false → answer_to w s o words ≡ Err (refusal 5 0)
unfolding answer_to place_answer commit_answer
ill_refused (Best mask) s o words e = rw e
ill_refused (At p) s o words e = rw e

pub ill_untried : (w : Wanted) (s o : List ℕ) (words : ℕ) → well_formedb s ≡ false → count_to w s o words ≡ 0
unfolding count_to place_tries
ill_untried (Best mask) s o words e = rw e
ill_untried (At p) s o words e = refl

pub not_formed : {s o f l h : List ℕ} (w : Wanted) {words : ℕ} {a : PlacingTries} → well_formedb s ≡ false →
    a ≡ record { placing = Err (refusal 5 0); tries = 0 } → Looked s o w words a.placing a.tries f l h
not_formed {s} {o} w {words} e q =
    rw q
    (record {
      answer = sym (ill_refused w s o words e);
      counted = sym (ill_untried w s o words e);
      next = λ p t. absurd (no_grant t);
    })

module _ {s o f l h : List ℕ} {w : Wanted} {words : ℕ} {a : Result Position Refusal} {n : ℕ} (x : Looked s o w words a n f l h) where
  pub put_placed : {p : Position} {s' : List ℕ} → a ≡ Ok p →
      s' ≡ written (width_of s) (resolution_of s) (columns_of s) (gap_of s) (records_of (columns_of s) (length s)) (table_of f l h (columns_of s)) →
      Put s o w words a n s'
  unfolding PlaceLeaves
  put_placed {p} {s'} q e =
      record {
        answer = x.answer;
        counted = x.counted;
        leaves = subst (λ (b : Result Position Refusal). PlaceLeaves s o b s') (sym q) (rw e (x.next p q).left);
      }

  pub put_refused : {r : Refusal} → a ≡ Err r → Put s o w words a n s
  unfolding PlaceLeaves
  put_refused q =
      record { answer = x.answer; counted = x.counted; leaves = subst (λ (b : Result Position Refusal). PlaceLeaves s o b s) (sym q) refl }
