-- Both calls answer the first "no", and where there is none the size of what they leave. Assumes nothing.
use mathlib.Core.Path.{◌≡◌, refl, sym, ap, subst}
use mathlib.Core.List.{List, [], ◌∷◌}
use Prim.Native.Nat.{ℕ, ◌*◌}
use lib.Dec.{leb}
use lib.ListN.{length}
use Rattle.std.specs.Prelude.{Result, Ok, Err}
use Rattle.defs.specs.declared.Refusal.{Refusal}
use Rattle.defs.specs.Answer.{writing}
use Rattle.defs.specs.Meaning.Question.{Question15}
use Rattle.defs.specs.Computing.Test.{ask}
use Rattle.defs.specs.Computing.Calls.{refusal, q7b, q8b}
use Rattle.laws.proofs.Tests.{Decides, leb_decides}
use Rattle.laws.proofs.Questions.{question_7, question_8}
use Rattle.claims.specs.Numbers.{asks, grants, Answers}
use Rattle.claims.proofs.Asked.{is_granted, step}
use Rattle.pathdefs.specs.Answer.{path_reading}
use Rattle.pathdefs.specs.Meaning.Path.{Question20, path_size}
use Rattle.pathdefs.specs.Computing.Paths.{vertices_in, q19b, q20b, read_path_answer, write_path_answer, PathReadStep, PathWriteStep}
use Rattle.pathlaws.proofs.Shapes.{computed, question_19, question_20}
use Rattle.pathclaims.specs.Paths.{read_path_questions, write_path_questions}

-- 15 and the answer, of any outline that the path gives
fits : {b : List ℕ} (words : ℕ) (q : Question20 b) →
    Answers (asks 15 0 (Question15 (length q.outline) words) λ _. grants λ values. values ≡ length q.outline ∷ [])
    (path_reading (ask (leb (2 * vertices_in b) words) (Err (refusal 15 0)) λ _. Ok (2 * vertices_in b)))
fits {b} words q =
    let long : length q.outline ≡ 2 * vertices_in b = (computed q.gives).size in
    step path_reading (leb (2 * vertices_in b) words) (Question15 (length q.outline) words) (Err (refusal 15 0)) (Ok (2 * vertices_in b)) 15 0
    (λ _. grants λ values. values ≡ length q.outline ∷ []) refl
    (subst (λ (n : ℕ). Decides (leb n words) (Question15 (length q.outline) words)) long (leb_decides (length q.outline) words))
    (λ _. is_granted (λ values. values ≡ length q.outline ∷ []) (path_reading (Ok (2 * vertices_in b))) refl refl
    (ap (λ (n : ℕ). n ∷ []) (sym long)))

read_answers : (b : List ℕ) (words : ℕ) → Answers (read_path_questions b words) (path_reading (read_path_answer b words))
unfolding read_path_answer
read_answers b words =
    step path_reading (q19b b) _ (Err (refusal 19 0)) _ 19 0 _ refl (question_19 b)
    (λ q19. step path_reading (q20b b) _ (Err (refusal 20 0)) _ 20 0 _ refl (question_20 b ((question_19 b).1 q19)) (fits words))

write_answers : (o : List ℕ) (bytes : ℕ) → Answers (write_path_questions o bytes) (writing (write_path_answer o bytes))
unfolding write_path_answer
write_answers o bytes =
    step writing (q7b o) _ (Err (refusal 7 1)) _ 7 1 _ refl (question_7 o)
    (λ _. step writing (q8b o) _ (Err (refusal 8 1)) _ 8 1 _ refl (question_8 o)
    (λ _. step writing (leb (path_size o) bytes) _ (Err (refusal 15 0)) _ 15 0 _ refl (leb_decides (path_size o) bytes)
    (λ _. is_granted _ (writing (Ok (path_size o))) refl refl refl)))

pub read_asks : {b out out' : List ℕ} {a : Result ℕ Refusal} → PathReadStep b out a out' →
    Answers (read_path_questions b (length out)) (path_reading a)
read_asks {b} {out} s =
    subst (λ (a : Result ℕ Refusal). Answers (read_path_questions b (length out)) (path_reading a)) (sym s.answer) (read_answers b (length out))

pub write_asks : {o out out' : List ℕ} {a : Result ℕ Refusal} → PathWriteStep o out a out' →
    Answers (write_path_questions o (length out)) (writing a)
write_asks {o} {out} s =
    subst (λ (a : Result ℕ Refusal). Answers (write_path_questions o (length out)) (writing a)) (sym s.answer) (write_answers o (length out))
