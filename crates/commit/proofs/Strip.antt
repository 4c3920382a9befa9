-- The step of commit, from the answer in the form of place's. Assumes nothing.
use mathlib.Core.Path.{◌≡◌, refl, sym, ap, subst, ◌∙◌}
use mathlib.Core.List.{List}
use Prim.Native.Nat.{ℕ}
use lib.ListN.{length, replicate}
use Rattle.std.specs.Prelude.{Result, Ok, Err}
use Rattle.defs.specs.declared.Refusal.{Refusal}
use Rattle.defs.specs.declared.Position.{Position}
use Rattle.defs.specs.Computing.Calls.{commit_answer, PlaceLeaves, CommitLeaves, CommitStep, cleared}
use Rattle.commiton.specs.Commits.{placed_at}
use Rattle.wanted.specs.declared.Wanted.TheVariants.{At}
use Rattle.wanted.specs.Answers.{answer_to, Put}
use Rattle.commit.specs.Strip.{as_commit}

back : (p : Position) (c : Result Unit Refusal) → as_commit (placed_at p c) ≡ c
back p (Ok tt) = refl
back p (Err r) = refl

leaves_back : (s o s' : List ℕ) (p : Position) (c : Result Unit Refusal) → PlaceLeaves s o (placed_at p c) s' → CommitLeaves s o p c s'
unfolding PlaceLeaves CommitLeaves
leaves_back s o s' p (Ok tt) l = l
leaves_back s o s' p (Err r) l = l

module _ {s o : List ℕ} {p : Position} {words : ℕ} {a : Result Position Refusal} {n : ℕ} {s' : List ℕ} (x : Put s o (At p) words a n s') where
  abbrev c : Result Unit Refusal
  c = commit_answer s o p words

  is : a ≡ placed_at p c
  unfolding answer_to
  is = x.answer

  pub commit_answer_lem : as_commit a ≡ c
  commit_answer_lem = ap as_commit is ∙ back p c

  pub commit_leaves : CommitLeaves s o p (as_commit a) s'
  commit_leaves =
      subst (λ (b : Result Unit Refusal). CommitLeaves s o p b s') (sym commit_answer_lem)
      (leaves_back s o s' p c (subst (λ (b : Result Position Refusal). PlaceLeaves s o b s') is x.leaves))

-- with the work buffer cleared, which kept its length
pub step_of : {s o work work' s' : List ℕ} {p : Position} {a : Result Position Refusal} {n : ℕ} {r : Result Unit Refusal} (used : List ℕ) →
    Put s o (At p) (length work) a n s' → r ≡ as_commit a → length used ≡ length work → work' ≡ cleared used →
    CommitStep s o p work r s' work'
step_of {s} {o} {s' = s'} {p = p} used x q e z =
    record {
      answer = q ∙ commit_answer_lem x;
      strip = subst (λ (b : Result Unit Refusal). CommitLeaves s o p b s') (sym q) (commit_leaves x);
      zeros = z ∙ ap (λ (n : ℕ). replicate n 0) e;
    }
