-- Q by one division; a length below the front has none. Assumes nothing.
use mathlib.Core.Path.{◌≡◌, refl}
use Prim.Native.Nat.{ℕ, ◌+◌, ◌-◌, ◌<◌}
use native.Mathlib.Omega.{arith}
use borrow.Author.Rules.{rules}
use Rattle.defs.specs.Computing.Words.{records_of}
use Rattle.limits.proofs.records_of.Goals as goal

none : (n words : ℕ) → words < 5 + n → 0 ≡ records_of n words
unfolding records_of
none n words h = let e : words - (5 + n) ≡ 0 = omega arith in rw e refl

pub returns-then-words-front : goal.returns-then-words-front
returns-then-words-front c = none _ _ c.if-words-front.true

pub returns : goal.returns
unfolding records_of
returns c = search rules
