-- `some_cell` meets its contract: each turn below 4 is asked. Assumes nothing.
use mathlib.Core.Bool.{true, false}
use mathlib.Core.Path.{refl}
use Prim.Native.Nat.{ℕ}
use borrow.Author.Rules.{rules}
use borrow.Author.Tests.{tests}
use Rattle.std.proofs.lemmas.Iterator.{cases_from_any, YieldsList-from_range}
use Rattle.asked.specs.Answers.{AllowedCell}
use Rattle.asked.proofs.AllowedTurns.{turns_asked}
use Rattle.asked.proofs.some_cell.Goals as goal

pub returns : goal.returns
returns c =
    let p = c.requires in
    turns_asked _ _ p.fact_1 p.fact_3 _
    (cases_from_any _ _ _ (λ (t : ℕ). AllowedCell c.args.o.now c.args.mask t true) (λ (t : ℕ). AllowedCell c.args.o.now c.args.mask t false)
    c.any.ensures.ran (YieldsList-from_range 0 4 4 refl refl) (λ x q k. search (rules, tests)) (λ x q k. search (rules, tests)))
