-- What is read from the C functions' answers is the answer to the questions of the call.
-- Assumes nothing.
use mathlib.Core.Path.{subst}
use lib.ListN.{length}
use Rattle.defs.specs.Answer.{opening, covering, placing, asking, committing, reading, writing, laying, retracing}
use Rattle.defs.specs.Meaning.Strip.{Holds}
use Rattle.pathdefs.specs.Answer.{path_reading}
use Rattle.claims.specs.Numbers.{Answers, open_questions, cover_questions, place_questions, ask_questions, commit_questions, read_questions, write_questions, lay_questions}
use Rattle.claims.proofs.Numbers.{demand1_numbers}
use Rattle.knife.specs.Retraced.{retrace_questions, Retrace_asks}
use Rattle.knife.proofs.Retraced.{retrace_asks}
use Rattle.pathclaims.specs.Paths.{read_path_questions, write_path_questions}
use Rattle.pathclaims.proofs.Paths.{paths}
use Rattle.control.specs.Answered.{PackedNumbers}
use Rattle.control.proofs.Ends.{taken_is, taken_wide_is, taken_long_is, open_ended, cover_ended, place_ended, commit_ended, read_ended, write_ended, lay_ended, retrace_ended, read_path_ended, write_path_ended}

pub packed_numbers : PackedNumbers
packed_numbers =
    record {
      open_asks =
          λ {W} {R} {N} {g} {s} {n} x.
          let qs = open_questions W R N g (length s) in
          let h = demand1_numbers.open_asks x.step in
          subst (Answers qs) (taken_is 0 n qs (opening x.answer) x.packs (open_ended W R N g (length s)) h) h;
      cover_asks =
          λ {o} {t} {R} {g} {out} {n} x.
          let qs = cover_questions o t R g (length out) in
          let h = demand1_numbers.cover_asks x.step in
          subst (Answers qs) (taken_wide_is n qs (covering x.answer) x.packs (cover_ended o t R g (length out)) h) h;
      place_asks =
          λ {s} {o} {mask} {work} {n} x.
          let qs = place_questions s (Holds s) o mask (length work) in
          let h = demand1_numbers.place_asks x.step in
          subst (Answers qs) (taken_is 3 n qs (placing x.answer) x.packs (place_ended s (Holds s) o mask (length work)) h) h;
      ask_asks =
          λ {s} {o} {mask} {work} {n} x.
          let qs = ask_questions s (Holds s) o mask (length work) in
          let h = demand1_numbers.ask_asks x.step in
          subst (Answers qs) (taken_is 3 n qs (asking x.answer) x.packs (place_ended s (Holds s) o mask (length work)) h) h;
      commit_asks =
          λ {s} {o} {p} {work} {n} x.
          let qs = commit_questions s (Holds s) o p (length work) in
          let h = demand1_numbers.commit_asks x.step in
          subst (Answers qs) (taken_is 0 n qs (committing x.answer) x.packs (commit_ended s (Holds s) o p (length work)) h) h;
      read_asks =
          λ {b} {out} {n} x.
          let qs = read_questions b (length out) in
          let h = demand1_numbers.read_asks x.step in
          subst (Answers qs) (taken_is 3 n qs (reading x.answer) x.packs (read_ended b (length out)) h) h;
      write_asks =
          λ {W} {R} {N} {ws} {out} {n} x.
          let qs = write_questions W R N ws (length out) in
          let h = demand1_numbers.write_asks x.step in
          subst (Answers qs) (taken_wide_is n qs (writing x.answer) x.packs (write_ended W R N ws (length out)) h) h;
      lay_asks =
          λ {b} {g} {s} {out} {work} {n} x.
          let qs = lay_questions b g (length s) (length out) (length work) in
          let h = demand1_numbers.lay_asks x.step in
          subst (Answers qs) (taken_long_is n qs (laying x.answer) x.packs (lay_ended b g (length s) (length out) (length work)) h) h;
      retrace_asks =
          λ {o} {n} x.
          let qs = retrace_questions o in
          let h : Answers qs (retracing x.answer) = unfold Retrace_asks in retrace_asks o x.answer x.step in
          subst (Answers qs) (taken_is 2 n qs (retracing x.answer) x.packs (retrace_ended o) h) h;
      read_path_asks =
          λ {path} {out} {n} x.
          let qs = read_path_questions path (length out) in
          let h = paths.read_asks x.step in
          subst (Answers qs) (taken_wide_is n qs (path_reading x.answer) x.packs (read_path_ended path (length out)) h) h;
      write_path_asks =
          λ {o} {out} {n} x.
          let qs = write_path_questions o (length out) in
          let h = paths.write_asks x.step in
          subst (Answers qs) (taken_wide_is n qs (writing x.answer) x.packs (write_path_ended o (length out)) h) h;
    }
