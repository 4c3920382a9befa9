-- Document 01's numbers for the C functions: what include/vikelodu.h reads from an answer of 64 bits is the answer to the questions of
-- the call, whatever tries come with it. Assumes nothing.
use Rattle.std.specs.Prelude.{cond, List, [], ◌∷◌, ℕ, eqb, length, take}
use Rattle.defs.specs.declared.Position.{Position}
use Rattle.defs.specs.Answer.{Outcome}
use Rattle.defs.specs.Meaning.Strip.{Holds}
use Rattle.packing.specs.Packed.{first16, second16, third16, fourth16, high32}
use Rattle.packing.specs.Steps.{OpenPacked, CoverPacked, PlacePacked, AskPacked, CommitPacked, ReadPacked, WritePacked, LayPacked, RetracePacked, PathReadPacked, PathWritePacked}
use Rattle.knife.specs.Retraced.{retrace_questions}
use Rattle.pathclaims.specs.Paths.{read_path_questions, write_path_questions}
use Rattle.claims.specs.Numbers.{Answers, open_questions, cover_questions, place_questions, ask_questions, commit_questions, read_questions, write_questions, lay_questions}

-- vikelodu_number; then vikelodu_ordinal where it is not 0, else these values
abbrev pub taken_as : List ℕ → ℕ → Outcome
taken_as values n =
    record {
      number = first16 n;
      ordinal = cond (eqb (first16 n) 0) 0 (second16 n);
      values = cond (eqb (first16 n) 0) values [];
    }

-- so many values of 16 bits: vikelodu_turn, vikelodu_column and vikelodu_height, or those of another call
abbrev pub taken : ℕ → ℕ → Outcome
taken values n = taken_as (take values (second16 n ∷ third16 n ∷ fourth16 n ∷ [])) n

-- the one value of vikelodu_runs, vikelodu_size or vikelodu_words
abbrev pub taken_wide : ℕ → Outcome
taken_wide n = taken_as (high32 n ∷ []) n

-- vikelodu_placed and vikelodu_used_length
abbrev pub taken_long : ℕ → Outcome
taken_long n = taken_as (second16 n ∷ high32 n ∷ []) n

pub record PackedNumbers : Type 0 where
  pub open_asks :
      {W R N g : ℕ} {s : List ℕ} {n : ℕ} {s' : List ℕ} → OpenPacked W R N g s n s' →
      Answers (open_questions W R N g (length s)) (taken 0 n)
  pub cover_asks :
      {o : List ℕ} {t R g : ℕ} {out : List ℕ} {n : ℕ} {out' : List ℕ} → CoverPacked o t R g out n out' →
      Answers (cover_questions o t R g (length out)) (taken_wide n)
  pub place_asks :
      {s o : List ℕ} {mask : ℕ} {work : List ℕ} {n tries : ℕ} {s' work' : List ℕ} → PlacePacked s o mask work n tries s' work' →
      Answers (place_questions s (Holds s) o mask (length work)) (taken 3 n)
  pub ask_asks :
      {s o : List ℕ} {mask : ℕ} {work : List ℕ} {n tries : ℕ} {s' work' : List ℕ} → AskPacked s o mask work n tries s' work' →
      Answers (ask_questions s (Holds s) o mask (length work)) (taken 3 n)
  pub commit_asks :
      {s o : List ℕ} {p : Position} {work : List ℕ} {n : ℕ} {s' work' : List ℕ} → CommitPacked s o p work n s' work' →
      Answers (commit_questions s (Holds s) o p (length work)) (taken 0 n)
  pub read_asks :
      {b out : List ℕ} {n : ℕ} {out' : List ℕ} → ReadPacked b out n out' → Answers (read_questions b (length out)) (taken 3 n)
  pub write_asks :
      {W R N : ℕ} {ws out : List ℕ} {n : ℕ} {out' : List ℕ} → WritePacked W R N ws out n out' →
      Answers (write_questions W R N ws (length out)) (taken_wide n)
  pub lay_asks :
      {b : List ℕ} {g : ℕ} {s out work : List ℕ} {n : ℕ} {s' out' work' : List ℕ} → LayPacked b g s out work n s' out' work' →
      Answers (lay_questions b g (length s) (length out) (length work)) (taken_long n)
  pub retrace_asks : {o : List ℕ} {n : ℕ} → RetracePacked o n → Answers (retrace_questions o) (taken 2 n)
  pub read_path_asks :
      {path out : List ℕ} {n : ℕ} {out' : List ℕ} → PathReadPacked path out n out' →
      Answers (read_path_questions path (length out)) (taken_wide n)
  pub write_path_asks :
      {o out : List ℕ} {n : ℕ} {out' : List ℕ} → PathWritePacked o out n out' →
      Answers (write_path_questions o (length out)) (taken_wide n)
