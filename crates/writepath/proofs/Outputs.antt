-- What the call answers and leaves, by the questions passed. Assumes nothing.
use mathlib.Core.Path.{◌≡◌, sym, ap, ◌∙◌}
use mathlib.Core.Bool.{true}
use mathlib.Core.List.{List}
use Prim.Native.Nat.{ℕ, ◌≤◌, ◌<◌}
use native.Mathlib.Omega.{arith}
use native.Mathlib.Nat.{zero-add}
use lib.ListN.{length}
use lib.Seq.{sets, sets-eq}
use borrow.Author.Tests.{lt-leb}
use Rattle.std.specs.Prelude.{Result, Ok, Err}
use Rattle.defs.specs.declared.Refusal.{Refusal}
use Rattle.defs.specs.Meaning.Question.{Question7}
use Rattle.defs.specs.Computing.Calls.{refusal, q7b, q8b}
use Rattle.laws.proofs.Questions.{question_7}
use Rattle.pathdefs.specs.Meaning.Path.{path_size}
use Rattle.pathdefs.specs.Computing.Paths.{path_bytes, write_path_answer, write_path_output, PathWriteStep}
use Rattle.pathlaws.proofs.Writes.{path_written, written_is}
use Rattle.checks.specs.Says.{bounds_no}
use Rattle.checks.proofs.Bounded.{first_no_lem}
use Rattle.writepath.specs.Fits.{PathFits}

refused_step : {o out out' : List ℕ} {a : Result ℕ Refusal} {r : Refusal} → write_path_answer o (length out) ≡ Err r → a ≡ Err r → out' ≡ out →
    PathWriteStep o out a out'
unfolding write_path_output
refused_step {o} {out} h e k = record { answer = e ∙ sym h; output = k ∙ sym (ap (write_path_output o out) e) }

pub short : (o : List ℕ) → q7b o ≡ true → length o ≤ 128
short o e = ((question_7 o).0 e).words.at_most

pub refused_no : (o out : List ℕ) {out' : List ℕ} {a : Result ℕ Refusal} {n : ℕ} → n ≡ bounds_no o → 0 < n → a ≡ Err (refusal n 1) → out' ≡ out →
    PathWriteStep o out a out'
unfolding write_path_answer
refused_no o out h l e k = refused_step (sym (first_no_lem o (λ n. Err (refusal n 1)) _ h l)) e k

module _ (o out : List ℕ) (seven : q7b o ≡ true) (eight : q8b o ≡ true) where
  pub no_room : {out' : List ℕ} {a : Result ℕ Refusal} → length out < path_size o → a ≡ Err (refusal 15 0) → out' ≡ out → PathWriteStep o out a out'
  unfolding write_path_answer
  no_room l e k = refused_step (rw (seven, eight, lt-leb (path_size o) (length out) l)) e k

  pub fits : path_size o ≤ length out → PathFits o out
  fits l =
      let q : Question7 o = (question_7 o).0 seven in
      record { even = omega (arith, q.even); least = omega (arith, q.words.at_least); most = omega (arith, q.words.at_most); room = l }

  pub write : {out' : List ℕ} → path_size o ≤ length out → out' ≡ sets out 0 (path_bytes o) → PathWriteStep o out (Ok (path_size o)) out'
  unfolding write_path_output
  write l k =
      let n : length (path_bytes o) ≡ path_size o = (path_written o seven eight).bytes in
      record {
        answer = sym (written_is o (length out) seven eight l);
        output = k ∙ sets-eq (path_bytes o) out 0 (rw (zero-add (length (path_bytes o)), n) l) ∙ rw (zero-add (length (path_bytes o)), n);
      }
