-- A path that is written reads back as its outline, and what was read can be written and read again. Assumes nothing.
use mathlib.Core.Path.{◌≡◌, refl, sym, ap, ◌∙◌, subst}
use mathlib.Core.Bool.{true}
use mathlib.Core.List.{List, ◌++◌}
use Prim.Native.Nat.{ℕ, ◌*◌, ◌≤◌}
use native.Mathlib.Omega.{arith}
use lib.ListN.{length, take, drop}
use lib.Seq.{take_at}
use borrow.Author.Tests.{le-leb}
use Rattle.std.specs.Prelude.{Ok}
use Rattle.defs.specs.Meaning.Question.{Question7}
use Rattle.defs.specs.Computing.Test.{all}
use Rattle.defs.specs.Computing.Calls.{q7b, q8b}
use Rattle.laws.proofs.Tests.{and_both}
use Rattle.laws.proofs.Questions.{question_7}
use Rattle.pathdefs.specs.Meaning.Path.{Pair, Units, no_more, vertex, PathGives}
use Rattle.pathdefs.specs.Computing.Paths.{vertices_in, path_words, read_path_answer, read_path_output, PathReadStep, PathWriteStep}
use Rattle.pathlaws.proofs.Shapes.{computed}
use Rattle.pathlaws.proofs.Writes.{written_is}
use Rattle.pathclaims.specs.Paths.{ReadsAs, ReadsBack, ReadsAgain}
use Rattle.pathlaws.proofs.Granted.{read_granted, write_granted}

pub one_outline : {b o o' : List ℕ} → PathGives b o → PathGives b o' → o ≡ o'
one_outline g h = sym (computed g).words ∙ (computed h).words

-- a path that gives an outline reads as it
pub reads_as : {b o : List ℕ} → PathGives b o → ReadsAs b o
unfolding ReadsAs read_path_answer read_path_output
reads_as {b} {o} g a out out' s l =
    let c = computed g in
    let n : 2 * vertices_in b ≡ length o = sym c.size in
    let e : a ≡ Ok (length o) = s.answer ∙ rw (c.nineteen, c.twenty, n, le-leb (length o) (length out) l) in
    let w : out' ≡ o ++ drop (length o) out =
    s.output ∙ ap (read_path_output b out) e ∙ ap (λ (w : List ℕ). w ++ drop (length o) out) c.words in
    (e, ap (take (length o)) w ∙ take_at o (drop (length o) out) (length o) refl)

pub reads_back : {o out out' : List ℕ} {n : ℕ} → PathWriteStep o out (Ok n) out' → ReadsBack o (take n out')
reads_back {o} s =
    let g = write_granted s in
    let w = g.written in
    subst (ReadsBack o) (sym g.front) (record { gives = w.gives; unsigned = w.signs; reads = reads_as w.gives })

pub read_gives : {b out out' : List ℕ} {n : ℕ} → PathReadStep b out (Ok n) out' → PathGives b (take n out')
read_gives {b} s = let g = read_granted s in subst (PathGives b) (sym g.front) g.gives

-- an outline that a path gives passes 7 and 8
small : {ps : List Pair} {ws : List ℕ} → Units ps ws → q8b ws ≡ true
unfolding q8b all
small no_more = refl
small (vertex ax ay u) = and_both (le-leb _ _ ax.at_most) (and_both (le-leb _ _ ay.at_most) (small u))

seven : (w : List ℕ) (v : ℕ) → length w ≡ 2 * v → 3 ≤ v → v ≤ 64 → q7b w ≡ true
seven w v e l m =
    let q : Question7 w =
    record { even = rw e (omega arith); words = record { at_least = rw e (omega (arith, l)); at_most = rw e (omega (arith, m)) } } in
    (question_7 w).1 q

pub reads_again : {b out out' : List ℕ} {n : ℕ} → PathReadStep b out (Ok n) out' → ReadsAgain (take n out')
reads_again {b} s =
    let g = read_granted s in
    let q7 = seven (path_words b) (vertices_in b) (g.long ∙ g.vertices) g.least g.most in
    let q8 = small g.gives.units in
    subst ReadsAgain (sym g.front)
    (record {
      granted = λ a r r' w room. w.answer ∙ written_is (path_words b) (length r) q7 q8 room;
      again = λ m r r' w. (reads_back w).reads;
    })
