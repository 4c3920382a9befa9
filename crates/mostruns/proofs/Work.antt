-- With no gap, as many words of a work buffer as the outline with most runs needs serve as any larger number does: on every strip place
-- and commit answer the same, and so does lay of every sheet. Assumes nothing.
use mathlib.Core.Path.{◌≡◌, refl, sym, ap, ◌∙◌}
use mathlib.Core.Logic.{⊎_elim}
use mathlib.Core.List.{List, [], ◌∷◌}
use Prim.Native.Nat.{ℕ, ◌+◌, ◌*◌, ◌^◌, ◌≤◌, min}
use native.Mathlib.Omega.{arith}
use lib.Dec.{leb, eqb}
use borrow.Author.Tests.{eqb-true, le-leb}
use Rattle.defs.specs.declared.Position.{Position}
use Rattle.defs.specs.Meaning.Limits.{most_turn}
use Rattle.defs.specs.Meaning.Strip.{gap_of}
use Rattle.defs.specs.Meaning.Sheet.{Piece}
use Rattle.defs.specs.Computing.Cells.{Rows, most_runs}
use Rattle.defs.specs.Computing.Words.{well_formedb}
use Rattle.defs.specs.Computing.Calls.{q9b, q12b, outline_no, place_on, place_answer, commit_on, commit_answer, tries_on, place_tries}
use Rattle.defs.specs.Computing.Lay.{entries_from, lay_entries}
use Rattle.defs.specs.Computing.Bytes.{most_work}
use Rattle.laws.proofs.Tests.{ask_same}
use Rattle.laws.proofs.Questions.{question_7, question_8}
use Rattle.geom.proofs.Strip.{lt_or_le}
use Rattle.geom.proofs.Checks.{none_no_is, question_10, passes_resolution}
use Rattle.turns.proofs.Alone.{mask_of_turn}
use Rattle.mostruns.proofs.Most.{most_runs_bound}

-- three words for each run of an outline that passes 7 to 11
needed : (o : List ℕ) (mask R : ℕ) → outline_no o (q9b mask) mask R ≡ 0 → 3 * most_runs o mask R 0 4 ≤ most_work
unfolding q12b
needed o mask R e =
    let p = (none_no_is o (q9b mask) mask R).0 e in
    let most = 3 * most_runs o mask R 0 4 in
    let some = passes_resolution o mask R 0 most (record { none_no = e; room = le-leb most most (omega arith) }) in
    omega (arith, most_runs_bound o mask R ((question_7 o).0 p.0) ((question_8 o).0 p.1) ((question_10 o mask).0 p.3) some)

-- so many words are enough where more are
enough : (need n : ℕ) → need ≤ most_work → leb need (min n most_work) ≡ leb need n
enough need n h =
    ⊎_elim (λ l. le-leb need (min n most_work) (omega arith) ∙ sym (le-leb need n (omega arith))) (λ l. ap (leb need) (omega arith))
    (lt_or_le most_work n)

module _ (W R N Q n : ℕ) where
  room_for : (o : List ℕ) (mask : ℕ) → outline_no o (q9b mask) mask R ≡ 0 → q12b o mask R 0 (min n most_work) ≡ q12b o mask R 0 n
  unfolding q12b
  room_for o mask e = enough (3 * most_runs o mask R 0 4) n (needed o mask R e)

  place_same : (held : List (List Rows)) (o : List ℕ) (mask : ℕ) →
      place_on W R N 0 Q held o mask (min n most_work) ≡ place_on W R N 0 Q held o mask n
  unfolding place_on
  place_same held o mask =
      let first = outline_no o (q9b mask) mask R in
      ask_same (eqb first 0) _ _ _ (λ e. rw (room_for o mask (eqb-true first 0 e)))

  tries_same : (held : List (List Rows)) (o : List ℕ) (mask : ℕ) →
      tries_on W R N 0 held o mask (min n most_work) ≡ tries_on W R N 0 held o mask n
  unfolding tries_on
  tries_same held o mask =
      let first = outline_no o (q9b mask) mask R in
      ask_same (eqb first 0) _ _ _ (λ e. rw (room_for o mask (eqb-true first 0 e)))

  commit_same : (held : List (List Rows)) (o : List ℕ) (p : Position) →
      commit_on W R N 0 Q held o p (min n most_work) ≡ commit_on W R N 0 Q held o p n
  unfolding commit_on
  commit_same held o p =
      let first = outline_no o (leb p.turn most_turn) (2 ^ p.turn) R in
      ask_same (eqb first 0) _ _ _ (λ e. rw (room_for o (2 ^ p.turn) (passed (eqb-true first 0 e))))
    where
      passed : outline_no o (leb p.turn most_turn) (2 ^ p.turn) R ≡ 0 → outline_no o (q9b (2 ^ p.turn)) (2 ^ p.turn) R ≡ 0
      passed e = rw (mask_of_turn p.turn) at e

  entries_same : (k : ℕ) (held : List (List Rows)) (ps : List Piece) →
      entries_from W R N 0 Q (min n most_work) k held ps ≡ entries_from W R N 0 Q n k held ps
  unfolding entries_from
  entries_same k held [] = refl
  entries_same k held (p ∷ ps) = rw (place_same held p.outline p.mask, entries_same (k + 1) _ ps)

pub place_work : (s o : List ℕ) (mask n : ℕ) → gap_of s ≡ 0 → place_answer s o mask (min n most_work) ≡ place_answer s o mask n
unfolding place_answer
place_work s o mask n none = ask_same (well_formedb s) _ _ _ (λ e. rw none (place_same _ _ _ _ n _ o mask))

pub tries_work : (s o : List ℕ) (mask n : ℕ) → gap_of s ≡ 0 → place_tries s o mask (min n most_work) ≡ place_tries s o mask n
unfolding place_tries
tries_work s o mask n none = ask_same (well_formedb s) _ _ _ (λ e. rw none (tries_same _ _ _ 0 n _ o mask))

pub commit_work : (s o : List ℕ) (p : Position) (n : ℕ) → gap_of s ≡ 0 → commit_answer s o p (min n most_work) ≡ commit_answer s o p n
unfolding commit_answer
commit_work s o p n none = ask_same (well_formedb s) _ _ _ (λ e. rw none (commit_same _ _ _ _ n _ o p))

pub lay_work : (b : List ℕ) (strip n : ℕ) → lay_entries b 0 strip (min n most_work) ≡ lay_entries b 0 strip n
unfolding lay_entries
lay_work b strip n = entries_same _ _ _ _ n 1 _ _
