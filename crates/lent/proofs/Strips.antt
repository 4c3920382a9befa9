-- How many words the strip has. Assumes nothing.
use mathlib.Core.Path.{◌≡◌, refl}
use mathlib.Core.Bool.{Bool, true, false}
use mathlib.Core.List.{List}
use Prim.Native.Nat.{ℕ, ◌<◌}
use native.Mathlib.Omega.{arith}
use lib.ListN.{length}
use lib.Dec.{eqb}
use borrow.Author.Tests.{lt-leb, ne_eqb}
use Rattle.defs.specs.Meaning.Limits.{most_columns}
use Rattle.defs.specs.Meaning.Sheet.{sheet_w, sheet_r, sheet_n}
use Rattle.defs.specs.Computing.Words.{limits_no}
use Rattle.defs.specs.Computing.Calls.{refusal}
use Rattle.defs.specs.Computing.Sheets.{q1b, q2b, sheet_no}
use Rattle.laws.proofs.Questions.{limits_none}
use Rattle.lent.specs.Strips.{StripFor, early, StripWords}

-- the strip

pub strip_early_1 : (b : List ℕ) → length b < 16 → StripWords b 0
unfolding sheet_no q1b
strip_early_1 b l =
    record { few = omega arith; serves = early (refusal 1 0) (λ fourth. rw (lt-leb 16 (length b) l)) }

-- a sheet with too many columns is refused by 1, 2, 3, 16 or 17
too_many : (b : List ℕ) → most_columns < sheet_n b → eqb (limits_no (sheet_w b) (sheet_r b) (sheet_n b)) 0 ≡ false
too_many b l =
    ne_eqb (limits_no (sheet_w b) (sheet_r b) (sheet_n b)) 0
    (λ e. omega (arith, ((limits_none (sheet_w b) (sheet_r b) (sheet_n b)).0 e).columns.at_most))

pub strip_early_limits : (b : List ℕ) → most_columns < sheet_n b → StripWords b 0
unfolding sheet_no
strip_early_limits b l = record { few = omega arith; serves = go (q1b b) (q2b b) refl refl }
  where
    go : (t u : Bool) → q1b b ≡ t → q2b b ≡ u → StripFor b 0
    go false u e f = early (refusal 1 0) (λ fourth. rw e)
    go true false e f = early (refusal 2 0) (λ fourth. rw (e, f))
    go true true e f = early (refusal (limits_no (sheet_w b) (sheet_r b) (sheet_n b)) 0) (λ fourth. rw (e, f, too_many b l))
