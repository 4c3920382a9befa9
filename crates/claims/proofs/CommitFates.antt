-- The five fates of a commit on a well-formed strip, with what the definitions say in each.
-- Assumes nothing.
use mathlib.Core.Path.{◌≡◌, refl}
use mathlib.Core.Bool.{Bool, true, false}
use mathlib.Core.List.{List}
use Prim.Native.Nat.{ℕ, zero, suc, ◌^◌}
use lib.Dec.{leb, eqb, eqb-suc-zero}
use Rattle.std.specs.Prelude.{Result, Ok, Err}
use Rattle.defs.specs.declared.Refusal.{Refusal}
use Rattle.defs.specs.declared.Position.{Position}
use Rattle.defs.specs.Meaning.Limits.{most_turn}
use Rattle.defs.specs.Computing.Test.{ask}
use Rattle.defs.specs.Computing.Cells.{Rows}
use Rattle.defs.specs.Computing.Calls.{refusal, q12b, q14b, q18b, outline_no, commit_on}

module _ (W R N g Q : ℕ) (held : List (List Rows)) (o : List ℕ) (p : Position) (words : ℕ) where
  -- the first of 7 to 11 that gets "no" in the position's turn
  abbrev pub turn_no_lem : ℕ
  turn_no_lem = outline_no o (leb p.turn most_turn) (2 ^ p.turn) R

  abbrev pub room : Bool
  room = q12b o (2 ^ p.turn) R g words

  pub data CommitFate : Result Unit Refusal → Type 0 where
    early : (n : ℕ) → turn_no_lem ≡ suc n → CommitFate (Err (refusal (suc n) 1))
    short : turn_no_lem ≡ 0 → room ≡ false → CommitFate (Err (refusal 12 1))
    taken : turn_no_lem ≡ 0 → room ≡ true → q18b W R N g held o p ≡ false → CommitFate (Err (refusal 18 0))
    full :
        turn_no_lem ≡ 0 → room ≡ true → q18b W R N g held o p ≡ true → q14b W R g Q held o p ≡ false →
        CommitFate (Err (refusal 14 1))
    entered : turn_no_lem ≡ 0 → room ≡ true → q18b W R N g held o p ≡ true → q14b W R g Q held o p ≡ true → CommitFate (Ok tt)

  pub commit_fate : CommitFate (commit_on W R N g Q held o p words)
  unfolding commit_on
  commit_fate = go turn_no_lem refl room refl (q18b W R N g held o p) refl (q14b W R g Q held o p) refl
    where
      go : (n : ℕ) → turn_no_lem ≡ n → (b : Bool) → room ≡ b → (c : Bool) → q18b W R N g held o p ≡ c → (d : Bool) →
          q14b W R g Q held o p ≡ d →
          CommitFate (ask (eqb n 0) (Err (refusal n 1)) λ _.
          ask b (Err (refusal 12 1)) λ _.
          ask c (Err (refusal 18 0)) λ _. ask d (Err (refusal 14 1)) λ _. (Ok tt))
      go zero e7 false e12 c e18 d e14 = short e7 e12
      go zero e7 true e12 false e18 d e14 = taken e7 e12 e18
      go zero e7 true e12 true e18 false e14 = full e7 e12 e18 e14
      go zero e7 true e12 true e18 true e14 = entered e7 e12 e18 e14
      go (suc n) e7 b e12 c e18 d e14 = rw (eqb-suc-zero n) (early n e7)
