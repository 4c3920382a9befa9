-- Demand 1, numbers: each call's answer is the first "no" in document 01's order, and what it answers where there is none.
-- Assumes nothing.
use Prim.Native.Nat.{ℕ}
use mathlib.Core.Path.{sym, subst}
use lib.ListN.{length}
use Rattle.std.specs.Prelude.{Result}
use Rattle.defs.specs.declared.Figures.{Figures}
use Rattle.defs.specs.declared.Position.{Position}
use Rattle.defs.specs.declared.Refusal.{Refusal}
use Rattle.defs.specs.Answer.{opening, covering, placing, asking, committing, reading, writing}
use Rattle.defs.specs.Meaning.Strip.{Holds}
use Rattle.claims.specs.Numbers.{Answers, open_questions, cover_questions, place_questions, ask_questions, commit_questions, read_questions, write_questions, Demand1_numbers}
use Rattle.claims.proofs.OutlineNumbers.{open_answers, cover_answers, place_answers, ask_answers, commit_answers}
use Rattle.claims.proofs.SheetNumbers.{read_answers, write_answers}
use Rattle.claims.proofs.PlacedAlone.{placed_alone, committed_alone}
use Rattle.claims.proofs.ListNumbers.{list_answers_lem, lay_fate}
use Rattle.claims.proofs.LayNumbers.{lay_asked}

pub demand1_numbers : Demand1_numbers
demand1_numbers =
    record {
      open_asks =
          λ {W} {R} {N} {g} {s} x.
          subst (λ (a : Result Unit Refusal). Answers (open_questions W R N g (length s)) (opening a)) (sym x.answer)
          (open_answers W R N g (length s));
      cover_asks =
          λ {o} {t} {R} {g} {out} x.
          subst (λ (a : Result ℕ Refusal). Answers (cover_questions o t R g (length out)) (covering a)) (sym x.answer)
          (cover_answers o t R g (length out));
      place_asks =
          λ {s} {o} {mask} {work} x.
          subst (λ (a : Result Position Refusal). Answers (place_questions s (Holds s) o mask (length work)) (placing a)) (sym x.answer)
          (place_answers s (Holds s) (λ _ i j. (λ h. h, λ h. h)) o mask (length work));
      place_alone = λ x. placed_alone x;
      ask_asks =
          λ {s} {o} {mask} {work} x.
          subst (λ (a : Result Position Refusal). Answers (ask_questions s (Holds s) o mask (length work)) (asking a)) (sym x.answer)
          (ask_answers s (Holds s) (λ _ i j. (λ h. h, λ h. h)) o mask (length work));
      commit_asks =
          λ {s} {o} {p} {work} x.
          subst (λ (a : Result Unit Refusal). Answers (commit_questions s (Holds s) o p (length work)) (committing a)) (sym x.answer)
          (commit_answers s (Holds s) (λ _ i j. (λ h. h, λ h. h)) o p (length work));
      commit_alone = λ x. committed_alone x;
      list_asks = list_answers_lem;
      read_asks =
          λ {b} {out} x.
          subst (λ (a : Result Figures Refusal). Answers (read_questions b (length out)) (reading a)) (sym x.answer) (read_answers b (length out));
      write_asks =
          λ {W} {R} {N} {ws} {out} x.
          subst (λ (a : Result ℕ Refusal). Answers (write_questions W R N ws (length out)) (writing a)) (sym x.answer)
          (write_answers W R N ws (length out));
      lay_asks = lay_asked;
      lay_fates = λ x l Q long m h. lay_fate x l Q long m h;
    }
