-- Place is ask and commit together: what the search finds in the allowed turns passes a commit's questions in its own turn, since
-- questions 7 to 12 pass with that turn alone if they pass with all, and the best position is on the strip and free.
-- Assumes nothing.
use mathlib.Core.Path.{◌≡◌, refl, sym, ap, ◌∙◌}
use mathlib.Core.Logic.{◌⊎◌, inl, inr}
use mathlib.Core.Bool.{Bool, true, false, false≢true}
use mathlib.Core.List.{List}
use Prim.Native.Nat.{ℕ, ◌*◌, ◌^◌, ◌≤◌, ◌<◌}
use native.Mathlib.Omega.{arith}
use native.Mathlib.Decide.{dec_lt}
use lib.ListN.{length, replicate, length-replicate}
use borrow.Author.Tests.{le-leb, leb-true}
use Rattle.std.specs.Prelude.{Result, Ok, Err}
use Rattle.defs.specs.declared.Position.{Position}
use Rattle.defs.specs.declared.Refusal.{Refusal}
use Rattle.defs.specs.Meaning.Strip.{width_of, resolution_of, columns_of, gap_of}
use Rattle.defs.specs.Computing.Test.{ask}
use Rattle.defs.specs.Computing.Cells.{most_runs}
use Rattle.defs.specs.Computing.Words.{well_formedb, records_of, columns_runs}
use Rattle.defs.specs.Computing.Calls.{refusal, cleared, q12b, q18b, place_on, place_answer, ask_answer, commit_answer, PlaceLeaves, CommitLeaves, PlaceStep}
use Rattle.laws.proofs.Granted.{no_grant}
use Rattle.geom.proofs.Checks.{Passes}
use Rattle.turns.proofs.Alone.{passes_alone}
use Rattle.claims.specs.Asking.{AskThenCommit, none_found, committed, Place_is_ask_and_commit, Commit_as_asked}
use Rattle.claims.proofs.Invariant.{Kept}
use Rattle.claims.proofs.CommitFates.{CommitFate, early, short, taken, full, entered}
use Rattle.claims.proofs.KeptStrip.{commit_fate_on}
use Rattle.claims.proofs.PlaceAnswers.{found_there, best_there}
use Rattle.claims.proofs.CommitAnswers.{none_early, free_there}

-- a longer work buffer has room too
room_more : (o : List ℕ) (mask R g n n' : ℕ) → n ≤ n' → q12b o mask R g n ≡ true → q12b o mask R g n' ≡ true
unfolding q12b
room_more o mask R g n n' h e = le-leb (3 * most_runs o mask R g 4) n' (omega (arith, leb-true (3 * most_runs o mask R g 4) n e))

module _ {W R N g words : ℕ} {s : List ℕ} (k : Kept W R N g words s) (o : List ℕ) (mask n : ℕ) (p : Position)
    (there : place_answer s o mask n ≡ Ok p) (n' : ℕ) where
  -- the checks before 18, in the position's turn alone
  alone : Passes o (2 ^ p.turn) R g n
  alone =
      passes_alone o mask R g n p.turn (best_there k o mask n p there).fits.allowed (found_there k o mask n p there).passes

  on_and_free : q18b W R N g (columns_runs s) o p ≡ true
  on_and_free =
      let f = (best_there k o mask n p there).fits in
      (free_there k o p n alone).1 (record { on_strip = f.on_strip; free = f.free })

  pub commit_found : (commit_answer s o p n' ≡ Ok tt) ⊎ ((commit_answer s o p n' ≡ Err (refusal 12 1)) × (n' < n))
  commit_found = go (commit_answer s o p n') (commit_fate_on k o p n')
    where
      shorter : q12b o (2 ^ p.turn) R g n' ≡ false → Dec (n' < n) → n' < n
      shorter e (yes l) = l
      shorter e (no l) = absurd (false≢true (sym e ∙ room_more o (2 ^ p.turn) R g n n' (omega arith) alone.room))

      go : (a : Result Unit Refusal) → CommitFate W R N g (records_of N words) (columns_runs s) o p n' a →
          (a ≡ Ok tt) ⊎ ((a ≡ Err (refusal 12 1)) × (n' < n))
      go a (early m e) =
          absurd (omega (arith, sym (none_early W R N g (records_of N words) (columns_runs s) o p n alone) ∙ e))
      go a (short e7 e12) = inr (refl, shorter e12 (dec_lt n' n))
      go a (taken e7 e12 e18) = absurd (false≢true (sym e18 ∙ on_and_free))
      go a (full e7 e12 e18 e14) = absurd (false≢true (sym e14 ∙ (found_there k o mask n p there).room))
      go a (entered e7 e12 e18 e14) = inl refl

  pub commit_found_room : n ≤ n' → commit_answer s o p n' ≡ Ok tt
  commit_found_room h = go commit_found
    where
      go : (commit_answer s o p n' ≡ Ok tt) ⊎ ((commit_answer s o p n' ≡ Err (refusal 12 1)) × (n' < n)) →
          commit_answer s o p n' ≡ Ok tt
      go (inl e) = e
      go (inr e) = absurd (omega (arith, e.1))

-- a strip on which a piece is placed has passed question 5
placed_formed : (s o : List ℕ) (mask n : ℕ) (p : Position) → place_answer s o mask n ≡ Ok p → well_formedb s ≡ true
unfolding place_answer
placed_formed s o mask n p e = go (well_formedb s) refl e
  where
    go : (b : Bool) → well_formedb s ≡ b →
        (ask b (Err (refusal 5 0)) λ _.
        place_on (width_of s) (resolution_of s) (columns_of s) (gap_of s) (records_of (columns_of s) (length s)) (columns_runs s) o mask n) ≡
        Ok p → well_formedb s ≡ true
    go true w e = w
    go false w e = absurd (no_grant e)

itself : (s : List ℕ) → well_formedb s ≡ true → Kept (width_of s) (resolution_of s) (columns_of s) (gap_of s) (length s) s
itself s w = record { well_formed = w; long = refl; width = refl; resolution = refl; columns = refl; gap = refl }

pub commit_as_asked : Commit_as_asked
unfolding Commit_as_asked ask_answer
commit_as_asked s o mask work p n s₁ work₁ a work₂ b s' work' c =
    let there = sym a.answer in
    let is : b ≡ commit_answer s o p (length work₂) = c.answer ∙ ap (λ (z : List ℕ). commit_answer z o p (length work₂)) a.strip in
    rw is (commit_found (itself s (placed_formed s o mask (length work) p there)) o mask (length work) p there (length work₂))

long_cleared : (work : List ℕ) → length (cleared work) ≡ length work
long_cleared work = length-replicate (length work) 0

pub place_is_ask_and_commit : Place_is_ask_and_commit
unfolding Place_is_ask_and_commit ask_answer PlaceLeaves CommitLeaves
place_is_ask_and_commit s o mask work a n s' work' = (forth a, back a)
  where
    forth : (a : Result Position Refusal) → PlaceStep s o mask work a n s' work' → AskThenCommit s o mask work a n s' work'
    forth (Err r) t =
        none_found (record { answer = t.answer; counted = t.counted; strip = t.strip; zeros = t.zeros })
    forth (Ok p) t =
        let there = sym t.answer in
        committed {s₁ = s} {work₁ = cleared work}
        (record { answer = t.answer; counted = t.counted; strip = refl; zeros = refl })
        (record {
          answer =
              sym (commit_found_room (itself s (placed_formed s o mask (length work) p there)) o mask (length work) p there
              (length (cleared work)) (omega (arith, long_cleared work)));
          strip = t.strip;
          zeros = t.zeros ∙ sym (ap (λ (n : ℕ). replicate n 0) (long_cleared work));
        })

    back : (a : Result Position Refusal) → AskThenCommit s o mask work a n s' work' → PlaceStep s o mask work a n s' work'
    back a (none_found {r} t) =
        record { answer = t.answer; counted = t.counted; strip = t.strip; zeros = t.zeros }
    back a (committed {p} t c) =
        record {
          answer = t.answer;
          counted = t.counted;
          strip = rw t.strip at c.strip;
          zeros = c.zeros ∙ ap cleared t.zeros ∙ ap (λ (n : ℕ). replicate n 0) (long_cleared work);
        }
