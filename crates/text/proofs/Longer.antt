-- Input longer than a sheet may be prints what its first bytes print, as long as these are more than a sheet may be too.
-- Assumes nothing.
use mathlib.Core.Path.{◌≡◌, refl, sym, ap, ◌∙◌}
use mathlib.Core.Bool.{Bool, true, false}
use mathlib.Core.List.{List}
use Prim.Native.Nat.{ℕ, ◌≤◌, ◌<◌}
use native.Mathlib.Omega.{arith}
use lib.Dec.{leb}
use lib.ListN.{length, take}
use lib.Seq.{take_all, length-take-le, get_or-take}
use borrow.Author.Tests.{leb-true, leb-false, le-leb}
use Rattle.std.specs.Prelude.{Some}
use Rattle.defs.specs.Meaning.Limits.{most_bytes}
use Rattle.defs.specs.Computing.Calls.{refusal}
use Rattle.defs.specs.Computing.Sheets.{q1b, q2b, sheet_no}
use Rattle.defs.specs.Computing.Text.{lay_text}
use Rattle.laws.proofs.Questions.{question_2}
use Rattle.text.proofs.Answers.{early_text}

-- 2 refuses what is longer, unless 1 does
too_long : (b : List ℕ) → most_bytes < length b → q2b b ≡ false
too_long b l = go (q2b b) refl
  where
    go : (t : Bool) → q2b b ≡ t → t ≡ false
    go true e = absurd (omega (arith, ((question_2 b).0 e).most))
    go false e = refl

abbrev number_of : Bool → ℕ
number_of true = 2
number_of false = 1

refused_by : (b : List ℕ) (t : Bool) → q1b b ≡ t → most_bytes < length b → (fourth : Bool) → sheet_no b true fourth ≡ Some (refusal (number_of t) 0)
unfolding sheet_no
refused_by b true e l fourth = rw (e, too_long b l)
refused_by b false e l fourth = rw e

-- 1 asks for the first bytes
same_1 : (n : ℕ) (b : List ℕ) → 16 ≤ n → n ≤ length b → q1b (take n b) ≡ q1b b
unfolding q1b
same_1 n b m l =
    rw (
      length-take-le n b l,
      le-leb 16 n m,
      le-leb 16 (length b) (omega arith),
      get_or-take n b 0 0 (omega arith),
      get_or-take n b 1 0 (omega arith),
      get_or-take n b 2 0 (omega arith),
      get_or-take n b 3 0 (omega arith),
    )

-- `lay` reads 65,537 bytes at most
pub first_bytes : (n : ℕ) (b : List ℕ) → most_bytes < n → lay_text (take n b) ≡ lay_text b
first_bytes n b m = go (leb (length b) n) refl
  where
    go : (t : Bool) → leb (length b) n ≡ t → lay_text (take n b) ≡ lay_text b
    go true e = ap lay_text (take_all n b (leb-true (length b) n e))
    go false e =
        let l : n < length b = leb-false (length b) n e in
        let first : List ℕ = take n b in
        let long = length-take-le n b (omega arith) in
        early_text first _ (refused_by first (q1b b) (same_1 n b (omega arith) (omega arith)) (omega (arith, long))) ∙
        sym (early_text b _ (refused_by b (q1b b) refl (omega arith)))
