-- A strip of more than 68,101 words passes neither question 4 nor question 5, so one that is cut down to 68,102 words is refused as the
-- whole is. A strip that a granted call leaves has no more. Assumes nothing.
use mathlib.Core.Path.{◌≡◌, sym, ap, ◌∙◌}
use mathlib.Core.Logic.{⊎_elim}
use mathlib.Core.Bool.{true, false}
use mathlib.Core.List.{List}
use Prim.Native.Nat.{ℕ, ◌≤◌, ◌<◌}
use native.Mathlib.Omega.{arith}
use lib.ListN.{length}
use Rattle.defs.specs.Meaning.Limits.{most_columns}
use Rattle.defs.specs.Computing.Cells.{Rows}
use Rattle.defs.specs.Computing.Words.{lengthb, well_formedb}
use Rattle.defs.specs.Computing.Calls.{Left}
use Rattle.laws.proofs.Tests.{refuted}
use Rattle.laws.proofs.Questions.{length_decides}
use Rattle.laws.proofs.Formed.{lists_decide}
use Rattle.byteput.proofs.Caps.{Capped}

-- question 4, which is asked after 17: 5 + 4,096 + 4 × 16,000
pub short : (N words : ℕ) → N ≤ most_columns → lengthb N words ≡ true → words ≤ 68101
short N words few e =
    let d = (length_decides N words).0 e in
    omega (arith, d.words_are, d.records.at_most)

pub length_same : (N : ℕ) {a b : ℕ} → N ≤ most_columns → Capped 68101 a b → lengthb N b ≡ lengthb N a
length_same N {a} {b} few c = ⊎_elim (λ e. ap (lengthb N) e) (λ h. long b h.1 ∙ sym (long a h.0)) c
  where
    long : (words : ℕ) → 68101 < words → lengthb N words ≡ false
    long words h = refuted (lengthb N words) (λ e. omega (arith, short N words few e))

-- question 5
formed_short : (s : List ℕ) → well_formedb s ≡ true → length s ≤ 68101
formed_short s e =
    let f = (lists_decide s).0 e in
    omega (arith, f.long.words_are, f.long.records.at_most, f.limits.columns.at_most)

pub long_ill : (s : List ℕ) → 68101 < length s → well_formedb s ≡ false
long_ill s h = refuted (well_formedb s) (λ e. omega (arith, formed_short s e))

-- what a granted call leaves
pub left_short : {W R N g words : ℕ} {runs : ℕ → List Rows} {s : List ℕ} → Left W R N g words runs s → words ≤ 68101
left_short {s = s} l = omega (arith, l.long, formed_short s l.well_formed)
